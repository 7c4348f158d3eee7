-- Faces that are listed by their numbers, and what they were told, as they change.
use Rattle.std.proofs.Common.{◌≡◌, ℕ, ◌+◌, ◌<◌, ◌==◌, Bool, true, false, ◌&&◌, ◌||◌, not, List, [], ◌∷◌, ◌++◌, filter, length, map, take, get_or, Option, Some, None, refl, sym, ap, subst, ◌∙◌, eqb-true, eq-eqb}
use Rattle.std.proofs.lemmas.Bool.{false≢true}
use Rattle.std.proofs.lemmas.List.Folds.{list_any-append, list_any_more}
use Rattle.std.specs.BTreeMap.{is_at}
use Rattle.std.specs.List.{list_any}
use Rattle.std.specs.declared.cmp.Ordering.{Ordering}
use Rattle.std.specs.declared.cmp.Ordering.TheVariants.{Equal}
use Rattle.zt_protocol.specs.declared.messages.Message.{Message}
use Rattle.zt_protocol.specs.declared.messages.Message.TheVariants.{DeclareToken, UndeclareToken, DeclareFinal, Interest, InterestFinal, DeclareSubscriber, DeclareQueryable}
use Rattle.zt_keys.specs.Test.{by_test}
use Rattle.zt_model.specs.Hearing.{heard, told_pair}
use Rattle.zt_model.specs.Lists.{same, without_id}
use Rattle.zt_model.specs.Rows.{ById, Face}
use Rattle.zt_model.specs.Shown.{with_token, without_token}
use Rattle.zt_check_hints.specs.Hinted.{Has, IsHinted, Keeps, KeepsBut, hints_at}
use Rattle.zt_check_faces.specs.Faces.{if_number}
use Rattle.zt_check_faces.specs.Parts.{HasThoseOf}
use Rattle.zt_check_faces.proofs.Hinting.{and_both, and_left, and_right, any-weaker, equal-from, or_left, or_right, or_split}
use Rattle.zt_check_faces.proofs.Parts.{any-of_part}
use Rattle.zt_check_open_faces.specs.Found.{AreListed, AreOfTold, AreTold, IsTelling, holds_of, passes_at, tells, was_told}
use Rattle.zt_check_open_faces.specs.Open.{KeepsRows}
use Rattle.zt_check_open_faces.proofs.Declaring.{any-of_any, any-reaches, both-ways}

pub any-filtered : {X : Type 0} (p q : X → Bool) (xs : List X) → list_any p (filter q xs) ≡ true → list_any p xs ≡ true
any-filtered p q [] h = h
any-filtered p q (x ∷ xs) h =
    by_test (q x)
    (λ t.
    or_split (p x) (list_any p (filter q xs)) (rw t at h)
    (λ u. or_left (p x) _ u)
    (λ u. or_right (p x) _ (any-filtered p q xs u)))
    (λ t. or_right (p x) _ (any-filtered p q xs (rw t at h)))

module _ {K : Type 0} where
  -- ---- which numbers hold a face

  module _ (holds : Face K → Bool) where
    -- a face less
    pub left_of : (n : ℕ) (test : ℕ → Bool) (fs : List (Face K)) → holds_of holds test (filter (λ f. not (n == f.number)) fs) ≡ true → holds_of holds (λ m. not (n == m) && test m) fs ≡ true
    left_of n test [] h = h
    left_of n test (f ∷ fs) h =
        by_test (n == f.number)
        (λ t. or_right ((not (n == f.number) && test f.number) && holds f) _ (left_of n test fs (rw t at h)))
        (λ t.
        or_split (test f.number && holds f) (holds_of holds test (filter (λ g. not (n == g.number)) fs)) (rw t at h)
        (λ u. or_left ((not (n == f.number) && test f.number) && holds f) _ (rw t u))
        (λ u. or_right ((not (n == f.number) && test f.number) && holds f) _ (left_of n test fs u)))

    -- a face of a number of which it doesn't hold
    other_of : (n : ℕ) (test : ℕ → Bool) (fs : List (Face K)) → passes_at holds fs n ≡ false → holds_of holds test fs ≡ true → holds_of holds (λ m. not (n == m) && test m) fs ≡ true
    other_of n test [] off h = h
    other_of n test (f ∷ fs) off h =
        by_test (n == f.number && holds f)
        (λ t. absurd (false≢true (sym off ∙ or_left (n == f.number && holds f) _ t)))
        (λ t.
        let rest : passes_at holds fs n ≡ false = rw t at off in
        or_split (test f.number && holds f) (holds_of holds test fs) h
        (λ u.
        let not_it : (n == f.number) ≡ false = apart (n == f.number) (holds f) t (and_right (test f.number) (holds f) u) in
        or_left ((not (n == f.number) && test f.number) && holds f) _ (rw not_it u))
        (λ u. or_right ((not (n == f.number) && test f.number) && holds f) _ (other_of n test fs rest u)))
      where
        apart : (a b : Bool) → (a && b) ≡ false → b ≡ true → a ≡ false
        apart true b h k = absurd (false≢true (sym h ∙ k))
        apart false b h k = refl

    pub listed_found : (p : Face K → Bool) (numbers : List ℕ) (fs : List (Face K)) → AreListed holds numbers fs
        → list_any (passes_at (λ f. holds f && p f) fs) numbers ≡ list_any (λ f. holds f && p f) fs
    listed_found p numbers fs are =
        both-ways (list_any (passes_at (λ f. holds f && p f) fs) numbers) (list_any (λ f. holds f && p f) fs)
        (any-of_any (λ (n : ℕ) (f : Face K). n == f.number && (holds f && p f)) (λ f. holds f && p f) numbers fs (λ n f t. and_right (n == f.number) _ t))
        (λ h.
        are.at (passes_at (λ f. holds f && p f) fs)
        (any-reaches fs (λ f. holds f && p f) (λ f. passes_at (λ g. holds g && p g) fs f.number && holds f)
        (λ f t within.
        and_both (passes_at (λ g. holds g && p g) fs f.number) (holds f)
        (within (λ g. f.number == g.number && (holds g && p g)) (and_both (f.number == f.number) _ (eq-eqb f.number f.number refl) t))
        (and_left (holds f) (p f) t))
        h))

  pub passes_part : (test : Face K → Bool) (n : ℕ) (part fs : List (Face K)) → HasThoseOf (λ (f : Face K). f.number) n part fs → passes_at test part n ≡ passes_at test fs n
  passes_part test n part fs has = any-of_part (λ (f : Face K). f.number) n (λ f. n == f.number && test f) part fs (λ f other. rw other refl) has

module _ {K : Type 0} (cmp : K → K → Ordering) where
  pub told_none : (hints : List (K × List ℕ)) → AreTold cmp hints []
  told_none hints = record { at = λ e. record { at = λ test h. absurd (false≢true h) } }

  pub rows_none : (hints : List (K × List ℕ)) (n : ℕ) → AreOfTold cmp hints n []
  rows_none hints n = record { at = λ e h. absurd (false≢true h) }

  pub told_kept : (old new : List (K × List ℕ)) (fs : List (Face K)) → Keeps cmp old new → AreTold cmp old fs → AreTold cmp new fs
  told_kept old new fs keeps are = record { at = λ e. record { at = λ test h. keeps.at test e ((are.at e).at test h) } }

  pub told_pushed : (hints : List (K × List ℕ)) (f : Face K) (fs : List (Face K)) → AreTold cmp hints fs → f.told ≡ [] → AreTold cmp hints (fs ++ f ∷ [])
  told_pushed hints f fs are none = record {
    at = λ e. record {
      at = λ test h.
          let split = sym (list_any-append (λ (g : Face K). test g.number && was_told cmp e g) fs (f ∷ [])) ∙ h in
          or_split (holds_of (was_told cmp e) test fs) (holds_of (was_told cmp e) test (f ∷ [])) split
          (λ t. (are.at e).at test t)
          (λ t.
          or_split (test f.number && was_told cmp e f) false t
          (λ u. absurd (false≢true (rw none at (and_right (test f.number) (was_told cmp e f) u))))
          (λ u. absurd (false≢true u)));
    };
  }

  pub told_closed : (n : ℕ) (old new : List (K × List ℕ)) (fs : List (Face K)) → KeepsBut cmp (λ m. n == m) old new → AreTold cmp old fs → AreTold cmp new (filter (λ f. not (n == f.number)) fs)
  told_closed n old new fs keeps are = record {
    at = λ e. record {
      at = λ test h.
          let still = keeps.at (λ m. not (n == m) && test m) (λ m gone. rw gone refl) e ((are.at e).at (λ m. not (n == m) && test m) (left_of (was_told cmp e) n test fs h)) in
          any-weaker (λ m. not (n == m) && test m) test (hints_at cmp e new) (λ m t. and_right (not (n == m)) (test m) t) still;
    };
  }

  -- ---- a face changes, but for what it was told

  told_same : (change : Face K → Face K) → ((f : Face K) → (change f).number ≡ f.number) → ((f : Face K) → (change f).told ≡ f.told) → (test : ℕ → Bool) (e : K) (fs : List (Face K)) → holds_of (was_told cmp e) test (map change fs) ≡ holds_of (was_told cmp e) test fs
  told_same change number told test e [] = refl
  told_same change number told test e (f ∷ fs) =
      ap (λ n. (test n && was_told cmp e (change f)) || holds_of (was_told cmp e) test (map change fs)) (number f)
      ∙ ap (λ rows. (test f.number && list_any (λ row. same cmp e row.1) rows) || holds_of (was_told cmp e) test (map change fs)) (told f)
      ∙ ap (λ b. (test f.number && was_told cmp e f) || b) (told_same change number told test e fs)

  pub told_changed : (change : Face K → Face K) → ((f : Face K) → (change f).number ≡ f.number) → ((f : Face K) → (change f).told ≡ f.told) → (hints : List (K × List ℕ)) (fs : List (Face K)) → AreTold cmp hints fs → AreTold cmp hints (map change fs)
  told_changed change number told hints fs are = record { at = λ e. record { at = λ test h. (are.at e).at test (sym (told_same change number told test e fs) ∙ h) } }

  pub told_put : (n id : ℕ) (x : K) (f : Face K) → (if_number n (with_token id x) f).told ≡ f.told
  told_put n id x f = by_test (n == f.number) (λ t. rw t refl) (λ t. rw t refl)

  pub told_dropped : (n id : ℕ) (f : Face K) → (if_number n (without_token id) f).told ≡ f.told
  told_dropped n id f = by_test (n == f.number) (λ t. rw t refl) (λ t. rw t refl)

  -- ---- a face hears a message

  pair_told : (id : ℕ) (x e : K) (told : ById K) → list_any (λ row. same cmp e row.1) (told_pair cmp id x told) ≡ true → (same cmp e x || list_any (λ row. same cmp e row.1) told) ≡ true
  pair_told id x e told h =
      by_test (id == 0 || list_any (λ row. id == row.0 && same cmp x row.1) told)
      (λ t. or_right (same cmp e x) _ (rw t at h))
      (λ t.
      or_split (list_any (λ (row : ℕ × K). same cmp e row.1) told) (list_any (λ (row : ℕ × K). same cmp e row.1) ((id, x) ∷ []))
      (sym (list_any-append (λ (row : ℕ × K). same cmp e row.1) told ((id, x) ∷ [])) ∙ rw t at h)
      (λ u. or_right (same cmp e x) _ u)
      (λ u. or_split (same cmp e x) false u (λ v. or_left (same cmp e x) _ v) (λ v. absurd (false≢true v))))

  heard_told : (now : ℕ) (m : Message K) (e : K) (f : Face K) → was_told cmp e (heard cmp now m f) ≡ true → (tells cmp e m || was_told cmp e f) ≡ true
  heard_told now (DeclareToken id x interest node) e f h = pair_told id x e f.told h
  heard_told now (UndeclareToken id None node) e f h = any-filtered (λ row. same cmp e row.1) (λ row. not (id == row.0)) f.told h
  heard_told now (UndeclareToken id (Some x) node) e f h = any-filtered (λ row. same cmp e row.1) (λ row. not (same cmp x row.1)) f.told h
  heard_told now (DeclareFinal interest) e f h = h
  heard_told now (Interest id mode options x) e f h = h
  heard_told now (InterestFinal id) e f h = h
  heard_told now (DeclareSubscriber id x interest) e f h = h
  heard_told now (DeclareQueryable id x info interest) e f h = h

  heard_live : (now : ℕ) (m : Message K) (f : Face K) → (heard cmp now m f).live ≡ f.live
  heard_live now (DeclareToken id x interest node) f = refl
  heard_live now (UndeclareToken id x node) f = refl
  heard_live now (DeclareFinal interest) f = refl
  heard_live now (Interest id mode options x) f = refl
  heard_live now (InterestFinal id) f = refl
  heard_live now (DeclareSubscriber id x interest) f = refl
  heard_live now (DeclareQueryable id x info interest) f = refl

  heard_number : (now : ℕ) (m : Message K) (f : Face K) → (heard cmp now m f).number ≡ f.number
  heard_number now (DeclareToken id x interest node) f = refl
  heard_number now (UndeclareToken id x node) f = refl
  heard_number now (DeclareFinal interest) f = refl
  heard_number now (Interest id mode options x) f = refl
  heard_number now (InterestFinal id) f = refl
  heard_number now (DeclareSubscriber id x interest) f = refl
  heard_number now (DeclareQueryable id x info interest) f = refl

  pub number_heard : (n now : ℕ) (m : Message K) (f : Face K) → (if_number n (heard cmp now m) f).number ≡ f.number
  number_heard n now m f = by_test (n == f.number) (λ t. rw t (heard_number now m f)) (λ t. rw t refl)

  pub live_heard : (n now : ℕ) (m : Message K) (f : Face K) → (if_number n (heard cmp now m) f).live ≡ f.live
  live_heard n now m f = by_test (n == f.number) (λ t. rw t (heard_live now m f)) (λ t. rw t refl)

  face_heard : (n now : ℕ) (m : Message K) (test : ℕ → Bool) (e : K) (f : Face K) → (test (if_number n (heard cmp now m) f).number && was_told cmp e (if_number n (heard cmp now m) f)) ≡ true
      → ((test n && tells cmp e m) || (test f.number && was_told cmp e f)) ≡ true
  face_heard n now m test e f h =
      by_test (n == f.number)
      (λ t.
      let is : n ≡ f.number = eqb-true n f.number t in
      let both : (test (heard cmp now m f).number && was_told cmp e (heard cmp now m f)) ≡ true = rw t at h in
      let passes : test f.number ≡ true = ap test (sym (heard_number now m f)) ∙ and_left (test (heard cmp now m f).number) _ both in
      or_split (tells cmp e m) (was_told cmp e f) (heard_told now m e f (and_right (test (heard cmp now m f).number) _ both))
      (λ u. or_left (test n && tells cmp e m) _ (and_both (test n) _ (ap test is ∙ passes) u))
      (λ u. or_right (test n && tells cmp e m) _ (and_both (test f.number) _ passes u)))
      (λ t. or_right (test n && tells cmp e m) _ (rw t at h))

  faces_heard : (n now : ℕ) (m : Message K) (test : ℕ → Bool) (e : K) (fs : List (Face K)) → holds_of (was_told cmp e) test (map (if_number n (heard cmp now m)) fs) ≡ true
      → ((test n && tells cmp e m) || holds_of (was_told cmp e) test fs) ≡ true
  faces_heard n now m test e [] h = or_right (test n && tells cmp e m) _ h
  faces_heard n now m test e (f ∷ fs) h =
      or_split (test (if_number n (heard cmp now m) f).number && was_told cmp e (if_number n (heard cmp now m) f)) (holds_of (was_told cmp e) test (map (if_number n (heard cmp now m)) fs)) h
      (λ t.
      or_split (test n && tells cmp e m) (test f.number && was_told cmp e f) (face_heard n now m test e f t)
      (λ u. or_left (test n && tells cmp e m) _ u)
      (λ u. or_right (test n && tells cmp e m) _ (or_left (test f.number && was_told cmp e f) _ u)))
      (λ t.
      or_split (test n && tells cmp e m) (holds_of (was_told cmp e) test fs) (faces_heard n now m test e fs t)
      (λ u. or_left (test n && tells cmp e m) _ u)
      (λ u. or_right (test n && tells cmp e m) _ (or_right (test f.number && was_told cmp e f) _ u)))

  pub told_heard : (n now : ℕ) (m : Message K) (old new : List (K × List ℕ)) (fs gs : List (Face K)) → Keeps cmp old new → IsTelling cmp m n new → gs ≡ map (if_number n (heard cmp now m)) fs
      → AreTold cmp old fs → AreTold cmp new gs
  told_heard n now m old new fs gs keeps telling is are =
      subst (AreTold cmp new) (sym is)
      (record {
        at = λ e. record {
          at = λ test h.
              or_split (test n && tells cmp e m) (holds_of (was_told cmp e) test fs) (faces_heard n now m test e fs h)
              (λ t. (telling.at e (and_right (test n) _ t)).at test (and_left (test n) _ t))
              (λ t. keeps.at test e ((are.at e).at test t));
        };
      })

  module _ (one : (a b : K) → cmp a b ≡ Equal → a ≡ b) where
    -- what an expression is hinted by, each that is the same is hinted by
    pub has_own : (n : ℕ) (x : K) (hints : List (K × List ℕ)) → IsHinted cmp x n hints → (e : K) → same cmp e x ≡ true → Has n (hints_at cmp e hints)
    has_own n x hints hinted e h =
        let tied : e ≡ x = one e x (equal-from _ h) in
        subst (λ k. Has n (hints_at cmp k hints)) (sym tied) (record { at = λ test t. hinted.at test t })

    pub told_forgotten : (n : ℕ) (x : K) (old new : List (K × List ℕ)) (fs : List (Face K)) → passes_at (was_told cmp x) fs n ≡ false → KeepsBut cmp (λ m. n == m) old new
        → ((q : K) → is_at (cmp x) q ≡ false → hints_at cmp q new ≡ hints_at cmp q old) → AreTold cmp old fs → AreTold cmp new fs
    told_forgotten n x old new fs off keeps others are = record {
      at = λ e. record {
        at = λ test h.
            by_test (is_at (cmp x) e)
            (λ t.
            let tied : x ≡ e = one x e (equal-from _ t) in
            let fails : passes_at (was_told cmp e) fs n ≡ false = subst (λ k. passes_at (was_told cmp k) fs n ≡ false) tied off in
            let still = keeps.at (λ m. not (n == m) && test m) (λ m gone. rw gone refl) e ((are.at e).at (λ m. not (n == m) && test m) (other_of (was_told cmp e) n test fs fails h)) in
            any-weaker (λ m. not (n == m) && test m) test (hints_at cmp e new) (λ m u. and_right (not (n == m)) (test m) u) still)
            (λ t. ap (list_any test) (others e t) ∙ (are.at e).at test h);
      };
    }

    pub rows_more : (n : ℕ) (mid new : List (K × List ℕ)) (rows : ById K) (at : ℕ) (row : ℕ × K) → at < length rows → row ≡ get_or rows at row
        → Keeps cmp mid new → IsHinted cmp row.1 n new → AreOfTold cmp mid n (take at rows) → AreOfTold cmp new n (take (at + 1) rows)
    rows_more n mid new rows at row within is keeps hinted are = record {
      at = λ e h.
          let split = sym (list_any_more (λ (r : ℕ × K). same cmp e r.1) rows at row within) ∙ h in
          or_split (list_any (λ (r : ℕ × K). same cmp e r.1) (take at rows)) (same cmp e (get_or rows at row).1) split
          (λ t. record { at = λ test u. keeps.at test e ((are.at e t).at test u) })
          (λ t. has_own n row.1 new hinted e (ap (λ (r : ℕ × K). same cmp e r.1) is ∙ t));
    }

  pub told_more : (mid new : List (K × List ℕ)) (fs : List (Face K)) (at : ℕ) (f : Face K) → at < length fs → f ≡ get_or fs at f
      → Keeps cmp mid new → AreOfTold cmp new f.number f.told → AreTold cmp mid (take at fs) → AreTold cmp new (take (at + 1) fs)
  told_more mid new fs at f within is keeps of are = record {
    at = λ e. record {
      at = λ test h.
          let split = sym (list_any_more (λ (g : Face K). test g.number && was_told cmp e g) fs at f within) ∙ h in
          or_split (holds_of (was_told cmp e) test (take at fs)) (test (get_or fs at f).number && was_told cmp e (get_or fs at f)) split
          (λ t. keeps.at test e ((are.at e).at test t))
          (λ t.
          let both : (test f.number && was_told cmp e f) ≡ true = ap (λ (g : Face K). test g.number && was_told cmp e g) is ∙ t in
          (of.at e (and_right (test f.number) _ both)).at test (and_left (test f.number) _ both));
    };
  }
