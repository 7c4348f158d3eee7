-- What tokens are hinted by, as faces change.
use Rattle.std.proofs.Common.{◌≡◌, ℕ, ◌+◌, ◌<◌, ◌≤◌, ◌==◌, Bool, true, false, ◌&&◌, ◌||◌, not, if◌then◌else◌, List, [], ◌∷◌, ◌++◌, filter, length, map, take, drop, get_or, refl, sym, ap, subst, ◌∙◌, arith, eqb-true, eq-eqb, ne_eqb}
use Rattle.std.proofs.lemmas.Bool.{false≢true}
use Rattle.std.proofs.lemmas.Cmp.{ranked}
use Rattle.std.proofs.lemmas.List.Folds.{list_any-append, list_any_more}
use Rattle.std.specs.FinMap.Entries.{put}
use Rattle.std.specs.List.{AllByRecursion, list_any}
use Rattle.std.specs.Ordering.{nat_cmp}
use Rattle.std.specs.declared.cmp.Ordering.{Ordering}
use Rattle.std.specs.declared.cmp.Ordering.TheVariants.{Less, Equal, Greater}
use Rattle.zt_region.specs.declared.region.Region.{Region}
use Rattle.zt_keys.specs.Test.{by_test}
use Rattle.zt_model.specs.Lists.{same}
use Rattle.zt_model.specs.Rows.{ById, Face}
use Rattle.zt_model.specs.Shown.{with_token, without_token}
use Rattle.zt_check_hints.specs.Hinted.{IsHinted, Keeps, KeepsBut, hints_at, is_hinted}
use Rattle.zt_check_faces.specs.Faces.{if_number}
use Rattle.zt_check_faces.specs.Parts.{HasThoseOf}
use Rattle.zt_check_faces.proofs.Hinting.{and_both, and_left, and_right, any-weaker, equal-from, or_left, or_right, or_split}
use Rattle.zt_check_faces.proofs.Parts.{any-of_part}
use Rattle.zt_check_faces.proofs.Placed.{next_is}
use Rattle.zt_check_open_faces.specs.declared.tokens.TokenPlace.{TokenPlace}
use Rattle.zt_check_open_faces.specs.Open.{IdsRise, TokensRise}
use Rattle.zt_check_open_faces.specs.Places.{AreDeclared, AreOfFace, is_declared, is_declared_at, is_declared_by}

abbrev place : ℕ → ℕ → TokenPlace
place n id = record { face = n; id = id }

-- ---- ids of tokens

less-by : (a b : ℕ) → nat_cmp a b ≡ Less → a < b
less-by a b h = rw h at (ranked a b (nat_cmp a b) refl)

same-by : (a b : ℕ) → nat_cmp a b ≡ Equal → a ≡ b
same-by a b h = rw h at (ranked a b (nat_cmp a b) refl)

more-by : (a b : ℕ) → nat_cmp a b ≡ Greater → b < a
more-by a b h = rw h at (ranked a b (nat_cmp a b) refl)

by_ranks : {G : Type 0} (r : Ordering) → (r ≡ Less → G) → (r ≡ Equal → G) → (r ≡ Greater → G) → G
by_ranks Less less equal greater = less refl
by_ranks Equal less equal greater = equal refl
by_ranks Greater less equal greater = greater refl

module _ {A : Type 0} where
  ids_lower : (m n : ℕ) (rows : ById A) → n ≤ m → IdsRise m rows → IdsRise n rows
  ids_lower m n [] le rise = tt
  ids_lower m n (row ∷ rows) le rise =
      let first : m ≤ row.0 = rise.0 in
      (omega (arith, first, le), rise.1)

  ids_filtered : (test : ℕ × A → Bool) (n : ℕ) (rows : ById A) → IdsRise n rows → IdsRise n (filter test rows)
  ids_filtered test n [] rise = tt
  ids_filtered test n (row ∷ rows) rise =
      let first : n ≤ row.0 = rise.0 in
      by_test (test row)
      (λ t. rw t (rise.0, ids_filtered test (row.0 + 1) rows rise.1))
      (λ t. rw t (ids_lower (row.0 + 1) n (filter test rows) (omega (arith, first)) (ids_filtered test (row.0 + 1) rows rise.1)))

  ids_put : (n id : ℕ) (x : A) (rows : ById A) → n ≤ id → IdsRise n rows → IdsRise n (put nat_cmp id x rows)
  ids_put n id x [] le rise = (le, tt)
  ids_put n id x (row ∷ rows) le rise =
      by_ranks (nat_cmp id row.0)
      (λ t. let lt = less-by id row.0 t in rw t (le, (omega (arith, lt), rise.1)))
      (λ t. let is = same-by id row.0 t in rw t (rise.0, rise.1))
      (λ t. let lt = more-by id row.0 t in rw t (rise.0, ids_put (row.0 + 1) id x rows (omega (arith, lt)) rise.1))

  -- rows from an id on pass a test of others than those below
  others_above : (n id : ℕ) (test : ℕ × A → Bool) (rows : ById A) → IdsRise n rows → id < n → list_any test rows ≡ true → list_any (λ row. not (id == row.0) && test row) rows ≡ true
  others_above n id test [] rise lt h = h
  others_above n id test (row ∷ rows) rise lt h =
      let first : n ≤ row.0 = rise.0 in
      or_split (test row) (list_any test rows) h
      (λ t. or_left (not (id == row.0) && test row) _ (rw (ne_eqb id row.0 (omega (arith, first, lt)), t) refl))
      (λ t. or_right (not (id == row.0) && test row) _ (others_above (row.0 + 1) id test rows rise.1 (omega (arith, first, lt)) t))

  -- a row that is put, or another of before
  put_split : (n id : ℕ) (x : A) (test : ℕ × A → Bool) (rows : ById A) → IdsRise n rows → list_any test (put nat_cmp id x rows) ≡ true → (test (id, x) || list_any (λ row. not (id == row.0) && test row) rows) ≡ true
  put_split n id x test [] rise h = h
  put_split n id x test (row ∷ rows) rise h =
      by_ranks (nat_cmp id row.0)
      (λ t.
      let lt = less-by id row.0 t in
      or_split (test (id, x)) (list_any test (row ∷ rows)) (rw t at h)
      (λ u. or_left (test (id, x)) _ u)
      (λ u. or_right (test (id, x)) _ (others_above row.0 id test (row ∷ rows) (omega arith, rise.1) lt u)))
      (λ t.
      let is = same-by id row.0 t in
      or_split (test (row.0, x)) (list_any test rows) (rw t at h)
      (λ u. or_left (test (id, x)) _ (subst (λ m. test (m, x) ≡ true) (sym is) u))
      (λ u. or_right (test (id, x)) _ (or_right (not (id == row.0) && test row) _ (others_above (row.0 + 1) id test rows rise.1 (omega (arith, is)) u))))
      (λ t.
      let lt = more-by id row.0 t in
      or_split (test row) (list_any test (put nat_cmp id x rows)) (rw t at h)
      (λ u. or_right (test (id, x)) _ (or_left (not (id == row.0) && test row) _ (rw (ne_eqb id row.0 (omega (arith, lt)), u) refl)))
      (λ u.
      or_split (test (id, x)) (list_any (λ r. not (id == r.0) && test r) rows) (put_split (row.0 + 1) id x test rows rise.1 u)
      (λ v. or_left (test (id, x)) _ v)
      (λ v. or_right (test (id, x)) _ (or_right (not (id == row.0) && test row) _ v))))

module _ {K : Type 0} where
  pub tokens_pushed : (f : Face K) (fs : List (Face K)) → TokensRise fs → f.live ≡ [] → TokensRise (fs ++ f ∷ [])
  tokens_pushed f [] rise none = (rw none tt, tt)
  tokens_pushed f (g ∷ fs) rise none = (rise.0, tokens_pushed f fs rise.1 none)

  pub tokens_filtered : (test : Face K → Bool) (fs : List (Face K)) → TokensRise fs → TokensRise (filter test fs)
  tokens_filtered test [] rise = tt
  tokens_filtered test (f ∷ fs) rise =
      by_test (test f)
      (λ t. rw t (rise.0, tokens_filtered test fs rise.1))
      (λ t. rw t (tokens_filtered test fs rise.1))

  pub tokens_changed : (change : Face K → Face K) (fs : List (Face K)) → ((f : Face K) → IdsRise 0 f.live → IdsRise 0 (change f).live) → TokensRise fs → TokensRise (map change fs)
  tokens_changed change [] keeps rise = tt
  tokens_changed change (f ∷ fs) keeps rise = (keeps f rise.0, tokens_changed change fs keeps rise.1)

  pub tokens_kept : (change : Face K → Face K) → ((f : Face K) → (change f).live ≡ f.live) → (f : Face K) → IdsRise 0 f.live → IdsRise 0 (change f).live
  tokens_kept change live f rise = subst (IdsRise 0) (sym (live f)) rise

  pub tokens_dropped : (n id : ℕ) (f : Face K) → IdsRise 0 f.live → IdsRise 0 (if_number n (without_token id) f).live
  tokens_dropped n id f rise =
      by_test (n == f.number)
      (λ t. rw t (ids_filtered (λ row. not (id == row.0)) 0 f.live rise))
      (λ t. rw t rise)

  pub tokens_put : (n id : ℕ) (e : K) (f : Face K) → IdsRise 0 f.live → IdsRise 0 (if_number n (with_token id e) f).live
  tokens_put n id e f rise =
      by_test (n == f.number)
      (λ t. rw t (ids_put 0 id e f.live (omega arith) rise))
      (λ t. rw t rise)

  pub number_dropped : (n id : ℕ) (f : Face K) → (if_number n (without_token id) f).number ≡ f.number
  number_dropped n id f = by_test (n == f.number) (λ t. rw t refl) (λ t. rw t refl)

  pub number_put : (n id : ℕ) (e : K) (f : Face K) → (if_number n (with_token id e) f).number ≡ f.number
  number_put n id e f = by_test (n == f.number) (λ t. rw t refl) (λ t. rw t refl)

-- ---- hints that go and stay

module _ {K : Type 0} (cmp : K → K → Ordering) where
  pub keeps_first : (gone : TokenPlace → Bool) (hints : List (K × List TokenPlace)) → KeepsBut cmp gone hints hints
  keeps_first gone hints = record { at = λ test others e h. h }

  pub keeps_more : (gone also : TokenPlace → Bool) (old mid new : List (K × List TokenPlace)) → ((p : TokenPlace) → also p ≡ true → gone p ≡ true) → KeepsBut cmp gone old mid → KeepsBut cmp also mid new → KeepsBut cmp gone old new
  keeps_more gone also old mid new weaker one two = record {
    at = λ test others e h. two.at test (λ p t. others p (weaker p t)) e (one.at test others e h);
  }

  pub keeps_both : (old mid new : List (K × List TokenPlace)) → Keeps cmp old mid → Keeps cmp mid new → Keeps cmp old new
  keeps_both old mid new one two = record { at = λ test e h. two.at test e (one.at test e h) }

  pub declared_none : (hints : List (K × List TokenPlace)) → AreDeclared cmp hints []
  declared_none hints = record { at = λ test e h. absurd (false≢true h) }

  pub face_none : (hints : List (K × List TokenPlace)) (n : ℕ) → AreOfFace cmp hints n []
  face_none hints n = record { at = λ test e h. absurd (false≢true h) }

  -- ---- faces open and close

  pub declared_pushed : (hints : List (K × List TokenPlace)) (f : Face K) (fs : List (Face K)) → AreDeclared cmp hints fs → f.live ≡ [] → AreDeclared cmp hints (fs ++ f ∷ [])
  declared_pushed hints f fs are none = record {
    at = λ test e h.
        let split = sym (list_any-append (is_declared_by cmp test e) fs (f ∷ [])) ∙ h in
        or_split (is_declared cmp test e fs) (is_declared cmp test e (f ∷ [])) split
        (λ t. are.at test e t)
        (λ t. absurd (false≢true (rw none at t)));
  }

  left_declared : (n : ℕ) (test : TokenPlace → Bool) (e : K) (fs : List (Face K)) → is_declared cmp test e (filter (λ f. not (n == f.number)) fs) ≡ true → is_declared cmp (λ p. not (n == p.face) && test p) e fs ≡ true
  left_declared n test e [] h = h
  left_declared n test e (f ∷ fs) h =
      by_test (n == f.number)
      (λ t. or_right (is_declared_by cmp (λ p. not (n == p.face) && test p) e f) _ (left_declared n test e fs (rw t at h)))
      (λ t.
      or_split (is_declared_by cmp test e f) (is_declared cmp test e (filter (λ g. not (n == g.number)) fs)) (rw t at h)
      (λ u. or_left (is_declared_by cmp (λ p. not (n == p.face) && test p) e f) _ (rw t u))
      (λ u. or_right (is_declared_by cmp (λ p. not (n == p.face) && test p) e f) _ (left_declared n test e fs u)))

  pub declared_closed : (n : ℕ) (old new : List (K × List TokenPlace)) (fs : List (Face K)) → KeepsBut cmp (λ p. n == p.face) old new → AreDeclared cmp old fs → AreDeclared cmp new (filter (λ f. not (n == f.number)) fs)
  declared_closed n old new fs keeps are = record {
    at = λ test e h.
        let still = keeps.at (λ p. not (n == p.face) && test p) (λ p gone. rw gone refl) e (are.at (λ p. not (n == p.face) && test p) e (left_declared n test e fs h)) in
        any-weaker (λ p. not (n == p.face) && test p) test (hints_at cmp e new) (λ p t. and_right (not (n == p.face)) (test p) t) still;
  }

  -- ---- a face changes

  declared_same : (change : Face K → Face K) → ((f : Face K) → (change f).number ≡ f.number) → ((f : Face K) → (change f).live ≡ f.live) → (test : TokenPlace → Bool) (e : K) (fs : List (Face K)) → is_declared cmp test e (map change fs) ≡ is_declared cmp test e fs
  declared_same change number live test e [] = refl
  declared_same change number live test e (f ∷ fs) =
      ap (λ n. list_any (λ row. test (place n row.0) && same cmp e row.1) (change f).live || is_declared cmp test e (map change fs)) (number f)
      ∙ ap (λ rows. list_any (λ row. test (place f.number row.0) && same cmp e row.1) rows || is_declared cmp test e (map change fs)) (live f)
      ∙ ap (λ b. is_declared_by cmp test e f || b) (declared_same change number live test e fs)

  pub declared_changed : (change : Face K → Face K) (hints : List (K × List TokenPlace)) (fs : List (Face K)) → ((f : Face K) → (change f).number ≡ f.number) → ((f : Face K) → (change f).live ≡ f.live) → AreDeclared cmp hints fs → AreDeclared cmp hints (map change fs)
  declared_changed change hints fs number live are = record { at = λ test e h. are.at test e (sym (declared_same change number live test e fs) ∙ h) }

  -- what another face or another id has still is another
  abbrev but : ℕ → ℕ → (TokenPlace → Bool) → TokenPlace → Bool
  but n id test p = not (n == p.face && id == p.id) && test p

  other_face : (n id : ℕ) (test : TokenPlace → Bool) (e : K) (f : Face K) → (n == f.number) ≡ false → is_declared_by cmp test e f ≡ true → is_declared_by cmp (but n id test) e f ≡ true
  other_face n id test e f t h = rw t h

  rows_dropped : (n id m : ℕ) (test : TokenPlace → Bool) (e : K) (rows : ById K) → (n == m) ≡ true → list_any (λ row. test (place m row.0) && same cmp e row.1) (filter (λ row. not (id == row.0)) rows) ≡ true
      → list_any (λ row. but n id test (place m row.0) && same cmp e row.1) rows ≡ true
  rows_dropped n id m test e [] at h = h
  rows_dropped n id m test e (row ∷ rows) at h =
      by_test (id == row.0)
      (λ t. or_right (but n id test (place m row.0) && same cmp e row.1) _ (rows_dropped n id m test e rows at (rw t at h)))
      (λ t.
      or_split (test (place m row.0) && same cmp e row.1) (list_any (λ r. test (place m r.0) && same cmp e r.1) (filter (λ r. not (id == r.0)) rows)) (rw t at h)
      (λ u. or_left (but n id test (place m row.0) && same cmp e row.1) _ (rw (at, t) u))
      (λ u. or_right (but n id test (place m row.0) && same cmp e row.1) _ (rows_dropped n id m test e rows at u)))

  face_dropped : (n id : ℕ) (test : TokenPlace → Bool) (e : K) (f : Face K) → is_declared_by cmp test e (if_number n (without_token id) f) ≡ true → is_declared_by cmp (but n id test) e f ≡ true
  face_dropped n id test e f h =
      by_test (n == f.number)
      (λ t. rows_dropped n id f.number test e f.live t (rw t at h))
      (λ t. other_face n id test e f t (rw t at h))

  faces_dropped : (n id : ℕ) (test : TokenPlace → Bool) (e : K) (fs : List (Face K)) → is_declared cmp test e (map (if_number n (without_token id)) fs) ≡ true → is_declared cmp (but n id test) e fs ≡ true
  faces_dropped n id test e [] h = h
  faces_dropped n id test e (f ∷ fs) h =
      or_split (is_declared_by cmp test e (if_number n (without_token id) f)) (is_declared cmp test e (map (if_number n (without_token id)) fs)) h
      (λ t. or_left (is_declared_by cmp (but n id test) e f) _ (face_dropped n id test e f t))
      (λ t. or_right (is_declared_by cmp (but n id test) e f) _ (faces_dropped n id test e fs t))

  still_hinted : (n id : ℕ) (old new : List (K × List TokenPlace)) (test : TokenPlace → Bool) (e : K) → KeepsBut cmp (λ p. n == p.face && id == p.id) old new → is_hinted cmp (but n id test) e old ≡ true → is_hinted cmp test e new ≡ true
  still_hinted n id old new test e keeps h =
      any-weaker (but n id test) test (hints_at cmp e new) (λ p t. and_right (not (n == p.face && id == p.id)) (test p) t)
      (keeps.at (but n id test) (λ p gone. rw gone refl) e h)

  pub declared_dropped : (n id : ℕ) (old new : List (K × List TokenPlace)) (fs : List (Face K)) → KeepsBut cmp (λ p. n == p.face && id == p.id) old new → AreDeclared cmp old fs → AreDeclared cmp new (map (if_number n (without_token id)) fs)
  declared_dropped n id old new fs keeps are = record {
    at = λ test e h. still_hinted n id old new test e keeps (are.at (but n id test) e (faces_dropped n id test e fs h));
  }

  -- ---- a token more
  face_put : (n id : ℕ) (x : K) (test : TokenPlace → Bool) (e : K) (f : Face K) → IdsRise 0 f.live → is_declared_by cmp test e (if_number n (with_token id x) f) ≡ true
      → ((test (place n id) && same cmp e x) || is_declared_by cmp (but n id test) e f) ≡ true
  face_put n id x test e f rise h =
      by_test (n == f.number)
      (λ t.
      let is : n ≡ f.number = eqb-true n f.number t in
      or_split (test (place f.number id) && same cmp e x) (list_any (λ row. not (id == row.0) && (test (place f.number row.0) && same cmp e row.1)) f.live)
      (put_split 0 id x (λ row. test (place f.number row.0) && same cmp e row.1) f.live rise (rw t at h))
      (λ u. or_left (test (place n id) && same cmp e x) _ (subst (λ m. (test (place m id) && same cmp e x) ≡ true) (sym is) u))
      (λ u.
      or_right (test (place n id) && same cmp e x) _
      (any-weaker (λ row. not (id == row.0) && (test (place f.number row.0) && same cmp e row.1)) (λ row. but n id test (place f.number row.0) && same cmp e row.1) f.live
      (λ row v.
      let other = and_left (not (id == row.0)) _ v in
      let rest = and_right (not (id == row.0)) _ v in
      let id_other : (id == row.0) ≡ false = not-true (id == row.0) other in
      rw (t, id_other) rest)
      u)))
      (λ t. or_right (test (place n id) && same cmp e x) _ (other_face n id test e f t (rw t at h)))
    where
      not-true : (b : Bool) → not b ≡ true → b ≡ false
      not-true true h = cc
      not-true false h = refl

  faces_put : (n id : ℕ) (x : K) (test : TokenPlace → Bool) (e : K) (fs : List (Face K)) → TokensRise fs → is_declared cmp test e (map (if_number n (with_token id x)) fs) ≡ true
      → ((test (place n id) && same cmp e x) || is_declared cmp (but n id test) e fs) ≡ true
  faces_put n id x test e [] rise h = or_right (test (place n id) && same cmp e x) _ h
  faces_put n id x test e (f ∷ fs) rise h =
      or_split (is_declared_by cmp test e (if_number n (with_token id x) f)) (is_declared cmp test e (map (if_number n (with_token id x)) fs)) h
      (λ t.
      or_split (test (place n id) && same cmp e x) (is_declared_by cmp (but n id test) e f) (face_put n id x test e f rise.0 t)
      (λ u. or_left (test (place n id) && same cmp e x) _ u)
      (λ u. or_right (test (place n id) && same cmp e x) _ (or_left (is_declared_by cmp (but n id test) e f) _ u)))
      (λ t.
      or_split (test (place n id) && same cmp e x) (is_declared cmp (but n id test) e fs) (faces_put n id x test e fs rise.1 t)
      (λ u. or_left (test (place n id) && same cmp e x) _ u)
      (λ u. or_right (test (place n id) && same cmp e x) _ (or_right (is_declared_by cmp (but n id test) e f) _ u)))

  module _ (one : (a b : K) → cmp a b ≡ Equal → a ≡ b) where
    own : (p : TokenPlace) (x : K) (hints : List (K × List TokenPlace)) → IsHinted cmp x p hints → (test : TokenPlace → Bool) (q : K) → (test p && same cmp q x) ≡ true → is_hinted cmp test q hints ≡ true
    own p x hints hinted test q h =
        let tied : q ≡ x = one q x (equal-from _ (and_right (test p) _ h)) in
        subst (λ k. is_hinted cmp test k hints ≡ true) (sym tied) (hinted.at test (and_left (test p) _ h))

    pub declared_put : (n id : ℕ) (x : K) (old mid new : List (K × List TokenPlace)) (fs : List (Face K)) → TokensRise fs → KeepsBut cmp (λ p. n == p.face && id == p.id) old mid → Keeps cmp mid new → IsHinted cmp x (place n id) new
        → AreDeclared cmp old fs → AreDeclared cmp new (map (if_number n (with_token id x)) fs)
    declared_put n id x old mid new fs rise keeps more hinted are = record {
      at = λ test e h.
          or_split (test (place n id) && same cmp e x) (is_declared cmp (but n id test) e fs) (faces_put n id x test e fs rise h)
          (λ t. own (place n id) x new hinted test e t)
          (λ t. more.at test e (still_hinted n id old mid test e keeps (are.at (but n id test) e t)));
    }

    pub face_more : (n : ℕ) (mid new : List (K × List TokenPlace)) (rows : ById K) (at : ℕ) (row : ℕ × K) → at < length rows → row ≡ get_or rows at row
        → Keeps cmp mid new → IsHinted cmp row.1 (place n row.0) new → AreOfFace cmp mid n (take at rows) → AreOfFace cmp new n (take (at + 1) rows)
    face_more n mid new rows at row within is keeps hinted are = record {
      at = λ test e h.
          let split = sym (list_any_more (λ (r : ℕ × K). test (place n r.0) && same cmp e r.1) rows at row within) ∙ h in
          or_split (list_any (λ (r : ℕ × K). test (place n r.0) && same cmp e r.1) (take at rows)) (test (place n (get_or rows at row).0) && same cmp e (get_or rows at row).1) split
          (λ t. keeps.at test e (are.at test e t))
          (λ t. own (place n row.0) row.1 new hinted test e (ap (λ (r : ℕ × K). test (place n r.0) && same cmp e r.1) is ∙ t));
    }

  pub declared_more : (mid new : List (K × List TokenPlace)) (fs : List (Face K)) (at : ℕ) (f : Face K) → at < length fs → f ≡ get_or fs at f
      → Keeps cmp mid new → AreOfFace cmp new f.number f.live → AreDeclared cmp mid (take at fs) → AreDeclared cmp new (take (at + 1) fs)
  declared_more mid new fs at f within is keeps of are = record {
    at = λ test e h.
        let split = sym (list_any_more (is_declared_by cmp test e) fs at f within) ∙ h in
        or_split (is_declared cmp test e (take at fs)) (is_declared_by cmp test e (get_or fs at f)) split
        (λ t. keeps.at test e (are.at test e t))
        (λ t. of.at test e (ap (is_declared_by cmp test e) is ∙ t));
  }

-- ---- what hints say

-- what passes a test of one within a list
abbrev pub Within : {X : Type 0} → X → List X → Type 0
Within x all = (p : _ → Bool) → p x ≡ true → list_any p all ≡ true

pub any-reaches : {X : Type 0} (all : List X) (q r : X → Bool) → ((x : X) → q x ≡ true → Within x all → r x ≡ true) → list_any q all ≡ true → list_any r all ≡ true
any-reaches {X} all q r reaches h = go all (λ x within. within) h
  where
    go : (xs : List X) → ((x : X) → Within x xs → Within x all) → list_any q xs ≡ true → list_any r xs ≡ true
    go [] sub h = h
    go (x ∷ xs) sub h =
        or_split (q x) (list_any q xs) h
        (λ t. or_left (r x) _ (reaches x t (sub x (λ p u. or_left (p x) _ u))))
        (λ t. or_right (r x) _ (go xs (λ y within. sub y (λ p u. or_right (p x) _ (within p u))) t))

pub any-of_any : {X Y : Type 0} (p : X → Y → Bool) (q : Y → Bool) (xs : List X) (ys : List Y) → ((x : X) (y : Y) → p x y ≡ true → q y ≡ true) → list_any (λ x. list_any (p x) ys) xs ≡ true → list_any q ys ≡ true
any-of_any p q [] ys weaker h = absurd (false≢true h)
any-of_any p q (x ∷ xs) ys weaker h =
    or_split (list_any (p x) ys) (list_any (λ x. list_any (p x) ys) xs) h
    (λ t. any-weaker (p x) q ys (weaker x) t)
    (λ t. any-of_any p q xs ys weaker t)

-- members one after another, of which none passes so far
pub none_here : {X : Type 0} (p : X → Bool) (xs : List X) (at : ℕ) (x : X) → at < length xs → x ≡ get_or xs at x → p x ≡ false → list_any p (drop at xs) ≡ list_any p xs → list_any p (drop (at + 1) xs) ≡ list_any p xs
none_here p xs at x within is fails so =
    let next : list_any p (drop at xs) ≡ (p x || list_any p (drop (at + 1) xs)) = ap (list_any p) (next_is xs at x within is) in
    let rest : (p x || list_any p (drop (at + 1) xs)) ≡ list_any p (drop (at + 1) xs) = rw fails refl in
    sym (next ∙ rest) ∙ so

pub found_here : {X : Type 0} (p : X → Bool) (xs : List X) (at : ℕ) (x : X) → at < length xs → x ≡ get_or xs at x → p x ≡ true → list_any p (drop at xs) ≡ list_any p xs → true ≡ list_any p xs
found_here p xs at x within is passes so =
    let next : list_any p (drop at xs) ≡ (p x || list_any p (drop (at + 1) xs)) = ap (list_any p) (next_is xs at x within is) in
    let rest : (p x || list_any p (drop (at + 1) xs)) ≡ true = rw passes refl in
    sym (next ∙ rest) ∙ so

pub both-ways : (a b : Bool) → (a ≡ true → b ≡ true) → (b ≡ true → a ≡ true) → a ≡ b
both-ways true b to from = sym (to refl)
both-ways false true to from = from refl
both-ways false false to from = refl

module _ {K : Type 0} (cmp : K → K → Ordering) (regions : Region → Bool) (e : K) where
  abbrev stands : Face K → Bool
  stands f = regions f.region && list_any (λ row. same cmp e row.1) f.live

  abbrev pub stands_at : TokenPlace → Face K → Bool
  stands_at p f = p.face == f.number && (regions f.region && list_any (λ row. p.id == row.0 && same cmp e row.1) f.live)

  to_stands : (p : TokenPlace) (f : Face K) → stands_at p f ≡ true → stands f ≡ true
  to_stands p f h =
      let both = and_right (p.face == f.number) _ h in
      and_both (regions f.region) _ (and_left (regions f.region) _ both)
      (any-weaker (λ row. p.id == row.0 && same cmp e row.1) (λ row. same cmp e row.1) f.live (λ row t. and_right (p.id == row.0) _ t) (and_right (regions f.region) _ both))

  reached : (fs : List (Face K)) → list_any stands fs ≡ true → is_declared cmp (is_declared_at cmp regions e fs) e fs ≡ true
  reached fs h =
      any-reaches fs stands (is_declared_by cmp (is_declared_at cmp regions e fs) e)
      (λ f stands_ within.
      any-reaches f.live (λ row. same cmp e row.1) (λ row. is_declared_at cmp regions e fs (place f.number row.0) && same cmp e row.1)
      (λ row same_ within_rows.
      and_both (is_declared_at cmp regions e fs (place f.number row.0)) (same cmp e row.1)
      (within (stands_at (place f.number row.0))
      (and_both (f.number == f.number) _ (eq-eqb f.number f.number refl)
      (and_both (regions f.region) _ (and_left (regions f.region) _ stands_)
      (within_rows (λ r. row.0 == r.0 && same cmp e r.1) (and_both (row.0 == row.0) _ (eq-eqb row.0 row.0 refl) same_)))))
      same_)
      (and_right (regions f.region) _ stands_))
      h

  -- a part that has the faces of the number serves as well
  pub at_part : (p : TokenPlace) (part fs : List (Face K)) → HasThoseOf (λ (f : Face K). f.number) p.face part fs → is_declared_at cmp regions e part p ≡ is_declared_at cmp regions e fs p
  at_part p part fs has = any-of_part (λ (f : Face K). f.number) p.face (stands_at p) part fs (λ f other. rw other refl) has

  -- hints of an expression tell whether it stands in regions
  pub declared_by_hints : (hints : List (K × List TokenPlace)) (fs : List (Face K)) → AreDeclared cmp hints fs → list_any (is_declared_at cmp regions e fs) (hints_at cmp e hints) ≡ list_any stands fs
  declared_by_hints hints fs are =
      both-ways (list_any (is_declared_at cmp regions e fs) (hints_at cmp e hints)) (list_any stands fs)
      (any-of_any stands_at stands (hints_at cmp e hints) fs to_stands)
      (λ h. are.at (is_declared_at cmp regions e fs) e (reached fs h))
