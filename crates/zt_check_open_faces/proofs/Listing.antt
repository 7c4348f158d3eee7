-- The list of faces that something may be owed to, as faces change.
use Rattle.std.proofs.Common.{◌≡◌, ℕ, ◌+◌, ◌<◌, ◌==◌, Bool, true, false, ◌&&◌, ◌||◌, not, if◌then◌else◌, List, [], ◌∷◌, ◌++◌, filter, length, map, take, get_or, refl, sym, ap, subst, ◌∙◌, eqb-true}
use Rattle.std.proofs.lemmas.Bool.{false≢true}
use Rattle.std.proofs.lemmas.List.Folds.{list_any-append, list_any_more}
use Rattle.std.specs.FinMap.Entries.{put}
use Rattle.std.specs.List.{list_any}
use Rattle.std.specs.Ordering.{nat_cmp}
use Rattle.std.specs.declared.cmp.Ordering.{Ordering}
use Rattle.std.specs.declared.cmp.Ordering.TheVariants.{Less, Equal, Greater}
use Rattle.zt_region.specs.Region.{is_north}
use Rattle.zt_protocol.specs.Interest.{is_current, is_future}
use Rattle.zt_keys.specs.Test.{by_test}
use Rattle.zt_model.specs.Hearing.{heard, put_if}
use Rattle.zt_model.specs.Rows.{ById, Face, InterestRow}
use Rattle.zt_model.specs.Seen.{is_owed}
use Rattle.zt_model.specs.Shown.{with_held, with_question, with_token, without_held, without_token}
use Rattle.zt_protocol.specs.declared.messages.Message.{Message}
use Rattle.zt_protocol.specs.declared.messages.Message.TheVariants.{DeclareToken, UndeclareToken, DeclareFinal, Interest, InterestFinal, DeclareSubscriber, DeclareQueryable}
use Rattle.zt_check_hints.specs.Hinted.{Has, KeepsAll, KeepsAllBut}
use Rattle.zt_check_faces.specs.Faces.{if_number}
use Rattle.zt_check_faces.proofs.Hinting.{and_both, and_left, and_right, any-weaker, or_left, or_right, or_split}
use Rattle.zt_check_open_faces.specs.Found.{AreListed, holds_of, may_be_owed}
use Rattle.zt_check_open_faces.specs.Open.{KeepsRows}
use Rattle.zt_check_open_faces.proofs.Asked.{owes}
use Rattle.zt_check_open_faces.proofs.Telling.{any-filtered, left_of}

by_ranks : {G : Type 0} (r : Ordering) → (r ≡ Less → G) → (r ≡ Equal → G) → (r ≡ Greater → G) → G
by_ranks Less less equal greater = less refl
by_ranks Equal less equal greater = equal refl
by_ranks Greater less equal greater = greater refl

-- a row that is put, or one of before
any-put : {A : Type 0} (id : ℕ) (x : A) (p : A → Bool) (rows : ById A) → list_any (λ row. p row.1) (put nat_cmp id x rows) ≡ true → (p x || list_any (λ row. p row.1) rows) ≡ true
any-put id x p [] h = h
any-put id x p (row ∷ rows) h =
    by_ranks (nat_cmp id row.0)
    (λ t. rw t at h)
    (λ t. or_split (p x) (list_any (λ r. p r.1) rows) (rw t at h) (λ u. or_left (p x) _ u) (λ u. or_right (p x) _ (or_right (p row.1) _ u)))
    (λ t.
    or_split (p row.1) (list_any (λ r. p r.1) (put nat_cmp id x rows)) (rw t at h)
    (λ u. or_right (p x) _ (or_left (p row.1) _ u))
    (λ u. or_split (p x) (list_any (λ r. p r.1) rows) (any-put id x p rows u) (λ v. or_left (p x) _ v) (λ v. or_right (p x) _ (or_right (p row.1) _ v))))

module _ {K : Type 0} where
  abbrev asks : ById (InterestRow K) → Bool
  asks held = list_any (λ row. is_current row.1.mode) held

  -- ---- what is owed may be owed

  pub owed_may : (matching : K → K → Bool) (e : K) (f : Face K) → is_owed matching f e ≡ true → may_be_owed f ≡ true
  owed_may matching e f h =
      or_split (is_north f.region) _ (owes matching f e ∙ h)
      (λ t. or_left (is_north f.region) _ t)
      (λ t. or_right (is_north f.region) _ (any-weaker _ (λ row. is_current row.1.mode) f.held (λ row u. and_right _ (is_current row.1.mode) u) t))

  -- what something may be owed to is listed, and so is what an expression is owed to
  pub owed_listed : (matching : K → K → Bool) (e : K) (numbers : List ℕ) (fs : List (Face K)) → AreListed may_be_owed numbers fs → AreListed (λ f. is_owed matching f e) numbers fs
  owed_listed matching e numbers fs are = record {
    at = λ test h.
        are.at test
        (any-weaker (λ f. test f.number && is_owed matching f e) (λ f. test f.number && may_be_owed f) fs
        (λ f t. and_both (test f.number) (may_be_owed f) (and_left (test f.number) _ t) (owed_may matching e f (and_right (test f.number) _ t)))
        h);
  }

  -- ---- faces open and close

  pub none_listed : (numbers : List ℕ) (fs : List (Face K)) → fs ≡ [] → AreListed may_be_owed numbers fs
  none_listed numbers fs none = record { at = λ test h. absurd (false≢true (rw none at h)) }

  pub listed_kept : (old new : List ℕ) (fs gs : List (Face K)) → KeepsAll old new → gs ≡ fs → AreListed may_be_owed old fs → AreListed may_be_owed new gs
  listed_kept old new fs gs keeps is are = subst (AreListed may_be_owed new) (sym is) (record { at = λ test h. keeps.at test (are.at test h) })

  pub listed_pushed : (n : ℕ) (old new : List ℕ) (f : Face K) (fs gs : List (Face K)) → KeepsAll old new → (is_north f.region ≡ true → Has n new) → f.number ≡ n → f.held ≡ [] → gs ≡ fs ++ f ∷ []
      → AreListed may_be_owed old fs → AreListed may_be_owed new gs
  listed_pushed n old new f fs gs keeps has number none is are =
      subst (AreListed may_be_owed new) (sym is)
      (record {
        at = λ test h.
            let split = sym (list_any-append (λ (g : Face K). test g.number && may_be_owed g) fs (f ∷ [])) ∙ h in
            or_split (holds_of may_be_owed test fs) (holds_of may_be_owed test (f ∷ [])) split
            (λ t. keeps.at test (are.at test t))
            (λ t.
            or_split (test f.number && may_be_owed f) false t
            (λ u.
            or_split (is_north f.region) (asks f.held) (and_right (test f.number) (may_be_owed f) u)
            (λ v. (has v).at test (ap test (sym number) ∙ and_left (test f.number) (may_be_owed f) u))
            (λ v. absurd (false≢true (rw none at v))))
            (λ u. absurd (false≢true u)));
      })

  pub listed_closed : (n : ℕ) (old new : List ℕ) (fs gs : List (Face K)) → KeepsAllBut (λ m. n == m) old new → gs ≡ filter (λ f. not (n == f.number)) fs → AreListed may_be_owed old fs → AreListed may_be_owed new gs
  listed_closed n old new fs gs keeps is are =
      subst (AreListed may_be_owed new) (sym is)
      (record {
        at = λ test h.
            let still = keeps.at (λ m. not (n == m) && test m) (λ m gone. rw gone refl) (are.at (λ m. not (n == m) && test m) (left_of may_be_owed n test fs h)) in
            any-weaker (λ m. not (n == m) && test m) test new (λ m t. and_right (not (n == m)) (test m) t) still;
      })

  -- ---- faces change

  owed_back : (change : Face K → Face K) → ((f : Face K) → (change f).number ≡ f.number) → ((f : Face K) → may_be_owed (change f) ≡ true → may_be_owed f ≡ true) → (test : ℕ → Bool) (fs : List (Face K))
      → holds_of may_be_owed test (map change fs) ≡ true → holds_of may_be_owed test fs ≡ true
  owed_back change number owed test [] h = h
  owed_back change number owed test (f ∷ fs) h =
      or_split (test (change f).number && may_be_owed (change f)) (holds_of may_be_owed test (map change fs)) h
      (λ t.
      or_left (test f.number && may_be_owed f) _
      (and_both (test f.number) (may_be_owed f) (ap test (sym (number f)) ∙ and_left (test (change f).number) _ t) (owed f (and_right (test (change f).number) _ t))))
      (λ t. or_right (test f.number && may_be_owed f) _ (owed_back change number owed test fs t))

  pub listed_changed : (change : Face K → Face K) (numbers : List ℕ) (fs gs : List (Face K)) → ((f : Face K) → (change f).number ≡ f.number) → ((f : Face K) → may_be_owed (change f) ≡ true → may_be_owed f ≡ true) → gs ≡ map change fs
      → AreListed may_be_owed numbers fs → AreListed may_be_owed numbers gs
  listed_changed change numbers fs gs number owed is are =
      subst (AreListed may_be_owed numbers) (sym is) (record { at = λ test h. are.at test (owed_back change number owed test fs h) })

  pub owed_by_rows : (change : Face K → Face K) → KeepsRows change → (f : Face K) → may_be_owed (change f) ≡ true → may_be_owed f ≡ true
  owed_by_rows change keeps f h = ap (λ r. is_north r || asks f.held) (sym (keeps.region f)) ∙ (ap (λ rows. is_north (change f).region || asks rows) (sym (keeps.held f)) ∙ h)

  pub owed_put : (n id : ℕ) (x : K) (f : Face K) → may_be_owed (if_number n (with_token id x) f) ≡ true → may_be_owed f ≡ true
  owed_put n id x f h = by_test (n == f.number) (λ t. rw t at h) (λ t. rw t at h)

  pub owed_dropped : (n id : ℕ) (f : Face K) → may_be_owed (if_number n (without_token id) f) ≡ true → may_be_owed f ≡ true
  owed_dropped n id f h = by_test (n == f.number) (λ t. rw t at h) (λ t. rw t at h)

  owed_unheld_here : (id : ℕ) (f : Face K) → may_be_owed (without_held id f) ≡ true → may_be_owed f ≡ true
  owed_unheld_here id f h =
      or_split (is_north f.region) (asks (filter (λ row. not (id == row.0)) f.held)) h
      (λ t. or_left (is_north f.region) _ t)
      (λ t. or_right (is_north f.region) _ (any-filtered (λ row. is_current row.1.mode) (λ row. not (id == row.0)) f.held t))

  pub owed_unheld : (n id : ℕ) (f : Face K) → may_be_owed (if_number n (without_held id) f) ≡ true → may_be_owed f ≡ true
  owed_unheld n id f h = by_test (n == f.number) (λ t. owed_unheld_here id f (rw t at h)) (λ t. rw t at h)

  pub number_unheld : (n id : ℕ) (f : Face K) → (if_number n (without_held id) f).number ≡ f.number
  number_unheld n id f = by_test (n == f.number) (λ t. rw t refl) (λ t. rw t refl)

  pub owed_heard : (cmp : K → K → Ordering) (n now : ℕ) (m : Message K) (f : Face K) → may_be_owed (if_number n (heard cmp now m) f) ≡ true → may_be_owed f ≡ true
  owed_heard cmp n now m f h = by_test (n == f.number) (λ t. here m (rw t at h)) (λ t. rw t at h)
    where
      here : (m : Message K) → may_be_owed (heard cmp now m f) ≡ true → may_be_owed f ≡ true
      here (DeclareToken id x interest node) h = h
      here (UndeclareToken id x node) h = h
      here (DeclareFinal interest) h = h
      here (Interest id mode options x) h = h
      here (InterestFinal id) h = h
      here (DeclareSubscriber id x interest) h = h
      here (DeclareQueryable id x info interest) h = h

  -- ---- a face begins to hold an interest

  abbrev pub holding : List (ℕ × ℕ) → ℕ → InterestRow K → Face K → Face K
  holding pendings id interest f = with_question pendings id interest (with_held id interest f)

  asks_put : (future : Bool) (id : ℕ) (interest : InterestRow K) (held : ById (InterestRow K)) → asks (put_if future id interest held) ≡ true → (is_current interest.mode || asks held) ≡ true
  asks_put true id interest held h = any-put id interest (λ (i : InterestRow K). is_current i.mode) held h
  asks_put false id interest held h = or_right (is_current interest.mode) _ h

  face_held : (n : ℕ) (pendings : List (ℕ × ℕ)) (id : ℕ) (interest : InterestRow K) (test : ℕ → Bool) (f : Face K)
      → (test (if_number n (holding pendings id interest) f).number && may_be_owed (if_number n (holding pendings id interest) f)) ≡ true → ((test n && is_current interest.mode) || (test f.number && may_be_owed f)) ≡ true
  face_held n pendings id interest test f h =
      by_test (n == f.number)
      (λ t.
      let is : n ≡ f.number = eqb-true n f.number t in
      let both : (test f.number && may_be_owed (holding pendings id interest f)) ≡ true = rw t at h in
      let passes = and_left (test f.number) _ both in
      or_split (is_north f.region) (asks (put_if (is_future interest.mode) id interest f.held)) (and_right (test f.number) _ both)
      (λ u. or_right (test n && is_current interest.mode) _ (and_both (test f.number) _ passes (or_left (is_north f.region) _ u)))
      (λ u.
      or_split (is_current interest.mode) (asks f.held) (asks_put (is_future interest.mode) id interest f.held u)
      (λ v. or_left (test n && is_current interest.mode) _ (and_both (test n) _ (ap test is ∙ passes) v))
      (λ v. or_right (test n && is_current interest.mode) _ (and_both (test f.number) _ passes (or_right (is_north f.region) _ v)))))
      (λ t. or_right (test n && is_current interest.mode) _ (rw t at h))

  faces_held : (n : ℕ) (pendings : List (ℕ × ℕ)) (id : ℕ) (interest : InterestRow K) (test : ℕ → Bool) (fs : List (Face K))
      → holds_of may_be_owed test (map (if_number n (holding pendings id interest)) fs) ≡ true → ((test n && is_current interest.mode) || holds_of may_be_owed test fs) ≡ true
  faces_held n pendings id interest test [] h = or_right (test n && is_current interest.mode) _ h
  faces_held n pendings id interest test (f ∷ fs) h =
      or_split (test (if_number n (holding pendings id interest) f).number && may_be_owed (if_number n (holding pendings id interest) f)) (holds_of may_be_owed test (map (if_number n (holding pendings id interest)) fs)) h
      (λ t.
      or_split (test n && is_current interest.mode) (test f.number && may_be_owed f) (face_held n pendings id interest test f t)
      (λ u. or_left (test n && is_current interest.mode) _ u)
      (λ u. or_right (test n && is_current interest.mode) _ (or_left (test f.number && may_be_owed f) _ u)))
      (λ t.
      or_split (test n && is_current interest.mode) (holds_of may_be_owed test fs) (faces_held n pendings id interest test fs t)
      (λ u. or_left (test n && is_current interest.mode) _ u)
      (λ u. or_right (test n && is_current interest.mode) _ (or_right (test f.number && may_be_owed f) _ u)))

  pub listed_held : (n : ℕ) (pendings : List (ℕ × ℕ)) (id : ℕ) (interest : InterestRow K) (old new : List ℕ) (fs gs : List (Face K)) → KeepsAll old new → (is_current interest.mode ≡ true → Has n new)
      → gs ≡ map (if_number n (holding pendings id interest)) fs → AreListed may_be_owed old fs → AreListed may_be_owed new gs
  listed_held n pendings id interest old new fs gs keeps has is are =
      subst (AreListed may_be_owed new) (sym is)
      (record {
        at = λ test h.
            or_split (test n && is_current interest.mode) (holds_of may_be_owed test fs) (faces_held n pendings id interest test fs h)
            (λ t. (has (and_right (test n) _ t)).at test (and_left (test n) _ t))
            (λ t. keeps.at test (are.at test t));
      })

  pub number_held : (n : ℕ) (pendings : List (ℕ × ℕ)) (id : ℕ) (interest : InterestRow K) (f : Face K) → (if_number n (holding pendings id interest) f).number ≡ f.number
  number_held n pendings id interest f = by_test (n == f.number) (λ t. rw t refl) (λ t. rw t refl)

  pub live_held : (n : ℕ) (pendings : List (ℕ × ℕ)) (id : ℕ) (interest : InterestRow K) (f : Face K) → (if_number n (holding pendings id interest) f).live ≡ f.live
  live_held n pendings id interest f = by_test (n == f.number) (λ t. rw t refl) (λ t. rw t refl)

  pub told_held : (n : ℕ) (pendings : List (ℕ × ℕ)) (id : ℕ) (interest : InterestRow K) (f : Face K) → (if_number n (holding pendings id interest) f).told ≡ f.told
  told_held n pendings id interest f = by_test (n == f.number) (λ t. rw t refl) (λ t. rw t refl)

  pub live_unheld : (n id : ℕ) (f : Face K) → (if_number n (without_held id) f).live ≡ f.live
  live_unheld n id f = by_test (n == f.number) (λ t. rw t refl) (λ t. rw t refl)

  pub told_unheld : (n id : ℕ) (f : Face K) → (if_number n (without_held id) f).told ≡ f.told
  told_unheld n id f = by_test (n == f.number) (λ t. rw t refl) (λ t. rw t refl)

  -- ---- a list from nothing

  pub listed_more : (mid new : List ℕ) (fs : List (Face K)) (at : ℕ) (f : Face K) (owing : Bool) → at < length fs → f ≡ get_or fs at f → owing ≡ may_be_owed f
      → KeepsAll mid new → (owing ≡ true → Has f.number new) → AreListed may_be_owed mid (take at fs) → AreListed may_be_owed new (take (at + 1) fs)
  listed_more mid new fs at f owing within is means keeps has are = record {
    at = λ test h.
        let split = sym (list_any_more (λ (g : Face K). test g.number && may_be_owed g) fs at f within) ∙ h in
        or_split (holds_of may_be_owed test (take at fs)) (test (get_or fs at f).number && may_be_owed (get_or fs at f)) split
        (λ t. keeps.at test (are.at test t))
        (λ t.
        let both : (test f.number && may_be_owed f) ≡ true = ap (λ (g : Face K). test g.number && may_be_owed g) is ∙ t in
        (has (means ∙ and_right (test f.number) _ both)).at test (and_left (test f.number) _ both));
  }
