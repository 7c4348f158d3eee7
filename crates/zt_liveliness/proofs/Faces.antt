-- The face of a session stays open, and keeps what its messages say.
use Rattle.std.proofs.Common.{◌≡◌, ℕ, ◌+◌, ◌≤◌, ◌==◌, ◌&&◌, ◌||◌, Bool, true, false, not, if◌then◌else◌, Option, Some, None, option_map, List, [], ◌∷◌, ◌++◌, filter, map, refl, sym, ap, subst, ◌∙◌, arith, eqb-true, eq-eqb, ne_eqb}
use Rattle.std.proofs.lemmas.Bool.{and_from}
use Rattle.std.specs.Cmp.{IsTotalOrder}
use Rattle.std.specs.List.{list_any}
use Rattle.std.specs.declared.cmp.Ordering.{Ordering}
use Rattle.zt_region.specs.declared.region.Bound.TheVariants.{North as NorthBound}
use Rattle.zt_region.specs.declared.region.Region.TheVariants.{Local}
use Rattle.zt_region.specs.declared.region.WhatAmI.TheVariants.{Client}
use Rattle.zt_protocol.specs.Plain.{PlainCall, NewSession, NewTransport, DeclareToken, UndeclareToken, Interest, InterestFinal, DeclareFinal, CloseFace, Expire, SetTrees, SetEntities}
use Rattle.zt_model.specs.Closing.{closing, leaving, without_face}
use Rattle.zt_model.specs.Hearing.{heard_all, messages_for, rows_heard}
use Rattle.zt_model.specs.Lists.{first_where}
use Rattle.zt_model.specs.Parts.{opened_session, unsaid_to}
use Rattle.zt_model.specs.Rows.{Face, Rows}
use Rattle.zt_model.specs.Says.{Part, Sends, altered, altered_by, find_face, is_routed, new_face, parts_of, said, said_by}
use Rattle.zt_model.specs.Transcript.{Each}
use Rattle.zt_laws.specs.Kept as kept
use Rattle.zt_laws.specs.Order.{ListsAreInOrder, RowsAreInOrder}
use Rattle.zt_laws.specs.Sound.{rows_after_call}
use Rattle.zt_laws.proofs.CallsOrder.{closing_orderly, keeps_faces, orderly_call}
use Rattle.zt_laws.proofs.Closed.{find_heard}
use Rattle.zt_laws.proofs.Hearing.{find_each, find_passes}
use Rattle.zt_laws.proofs.Lists.{any-append, any-filter, any-map, any_weaker, by_test, each_weaker, never}
use Rattle.zt_laws.proofs.PartsOrder.{altered_by_last, altered_in_order, tolds}
use Rattle.zt_laws.proofs.ToldFrom.{told_by_call}
use Rattle.zt_gateway.specs.Running.{closed_by}

-- the call doesn't close the face of a number
abbrev pub Leaves : {K : Type 0} → PlainCall K → ℕ → Type 0
Leaves c n = (m : ℕ) → closed_by c ≡ Some m → (m == n) ≡ false

module _ {K : Type 0} where
  abbrev has_number : ℕ → List (Face K) → Bool
  has_number n fs = list_any (λ f. n == f.number) fs

  number_there : (n : ℕ) (fs : List (Face K)) (f : Face K) → first_where (λ f. n == f.number) fs ≡ Some f → has_number n fs ≡ true
  number_there n [] f is = cc
  number_there n (x ∷ fs) f is = by_test (n == x.number) (λ here. rw here refl) (λ here. rw here (number_there n fs f (rw here at is)))

  found_there : (n : ℕ) (fs : List (Face K)) → has_number n fs ≡ true → (f : Face K) × (first_where (λ f. n == f.number) fs ≡ Some f)
  found_there n [] has = never has refl
  found_there n (x ∷ fs) has =
      by_test (n == x.number)
      (λ here. (x, rw here refl))
      (λ here. let later = found_there n fs (rw here at has) in (later.0, rw here later.1))

  has_appended : (n : ℕ) (f : Face K) (fs : List (Face K)) → has_number n fs ≡ true → has_number n (fs ++ f ∷ []) ≡ true
  has_appended n f fs has = any-append (λ f. n == f.number) fs (f ∷ []) ∙ rw has refl

  -- the last is found where no other has its number
  found_last : (n : ℕ) (f : Face K) (fs : List (Face K)) → Each (λ h. (n == h.number) ≡ false) fs → (n == f.number) ≡ true → first_where (λ f. n == f.number) (fs ++ f ∷ []) ≡ Some f
  found_last n f [] apart is = rw is refl
  found_last n f (x ∷ fs) apart is = rw apart.0 (found_last n f fs apart.1 is)

module _ {K : Type 0} (cmp : K → K → Ordering) (matching : K → K → Bool) (total : IsTotalOrder cmp) where
  kept_numbers : (n : ℕ) (g h : Rows K) → tolds cmp h ≡ tolds cmp g → has_number n g.faces ≡ true → has_number n h.faces ≡ true
  kept_numbers n g h same_ has =
      sym (any-map (λ (t : kept.Told K). n == t.number) kept.told_of h.faces)
      ∙ ap (list_any (λ (t : kept.Told K). n == t.number)) same_
      ∙ any-map (λ (t : kept.Told K). n == t.number) kept.told_of g.faces
      ∙ has

  altered_kept : (c : PlainCall K) (g : Rows K) (n : ℕ) → keeps_faces cmp matching total c ≡ true → ListsAreInOrder cmp matching g → has_number n g.faces ≡ true → has_number n (altered cmp matching c g).faces ≡ true
  altered_kept c g n keeps_ lists has = kept_numbers n g (altered cmp matching c g) (altered_in_order cmp matching (parts_of cmp matching c g) g (orderly_call cmp matching total c g keeps_) lists).1 has

  altered_has : (c : PlainCall K) (g : Rows K) (n : ℕ) → ListsAreInOrder cmp matching g → Leaves c n → has_number n g.faces ≡ true → has_number n (altered cmp matching c g).faces ≡ true
  unfolding parts_of altered_by
  altered_has (NewSession first) g n lists leaves has = has_appended n _ g.faces has
  altered_has (NewTransport zid whatami region bound first) g n lists leaves has = has_appended n _ g.faces has
  altered_has (CloseFace m) g n lists leaves has = cases (find_face m g)
    where
      cases : (o : Option (Face K)) → has_number n (altered_by cmp matching (elim o [ None ↦ [] | Some f ↦ closing cmp matching m g f ]) g).faces ≡ true
      cases None = has
      cases (Some f) =
          let parts : List (Part K) = if is_routed g f then [] else unsaid_to m (leaving cmp matching m f) in
          let before = altered_by cmp matching parts g in
          let alters = altered_in_order cmp matching parts g (closing_orderly cmp matching total m f g) lists in
          let there : has_number n before.faces ≡ true = kept_numbers n g before alters.1 has in
          let other : (m == n) ≡ false = leaves m refl in
          subst (λ (h : Rows K). has_number n h.faces ≡ true) (sym (altered_by_last cmp matching parts (without_face m) g))
          (any-filter (λ f. n == f.number) (λ h. not (m == h.number)) before.faces
          ∙ any_weaker (λ f. n == f.number) (λ h. not (m == h.number) && (n == h.number))
          (λ h own. and_from (not (m == h.number)) (n == h.number) (by_test (m == h.number) (λ same_. never (eq-eqb m n (eqb-true m h.number same_ ∙ sym (eqb-true n h.number own))) other) (λ same_. rw same_ refl)) own)
          before.faces there)
  altered_has (DeclareToken k id e node interest) g n lists leaves has = altered_kept (DeclareToken k id e node interest) g n refl lists has
  altered_has (UndeclareToken k id given node) g n lists leaves has = altered_kept (UndeclareToken k id given node) g n refl lists has
  altered_has (Interest k id mode options e) g n lists leaves has = altered_kept (Interest k id mode options e) g n refl lists has
  altered_has (InterestFinal k id) g n lists leaves has = altered_kept (InterestFinal k id) g n refl lists has
  altered_has (DeclareFinal k id) g n lists leaves has = altered_kept (DeclareFinal k id) g n refl lists has
  altered_has (Expire now) g n lists leaves has = altered_kept (Expire now) g n refl lists has
  altered_has (SetTrees region t) g n lists leaves has = altered_kept (SetTrees region t) g n refl lists has
  altered_has (SetEntities k subscribers queryables) g n lists leaves has = altered_kept (SetEntities k subscribers queryables) g n refl lists has

  still_open : (c : PlainCall K) (g : Rows K) (n : ℕ) (f : Face K) → ListsAreInOrder cmp matching g → Leaves c n → find_face n g ≡ Some f → (k : Face K) × (find_face n (rows_after_call cmp matching c g) ≡ Some k)
  unfolding rows_heard
  still_open c g n f lists leaves found =
      let a = altered cmp matching c g in
      let ss = said cmp matching c g in
      let there = found_there n a.faces (altered_has c g n lists leaves (number_there n g.faces f found)) in (
        heard_all cmp a.moment (messages_for there.0.number ss) there.0,
        find_heard cmp matching n a.moment (λ m. messages_for m ss) a.faces ∙ ap (option_map (λ (f : Face K). heard_all cmp a.moment (messages_for f.number ss) f)) there.1,
      )

  -- a face that a call doesn't close is there after it, told what its messages say
  pub told_then : (c : PlainCall K) (g : Rows K) (n : ℕ) (f : Face K) → RowsAreInOrder cmp matching g → Leaves c n → find_face n g ≡ Some f
      → (k : Face K) × (find_face n (rows_after_call cmp matching c g) ≡ Some k) × (k.told ≡ (kept.told_by_all cmp (messages_for n (said cmp matching c g)) (kept.told_of f)).rows)
  told_then c g n f rows leaves found =
      let there = still_open c g n f rows.lists leaves found in
      (there.0, there.1, ap (λ (t : kept.Told K). t.rows) (told_by_call cmp matching total c g n f there.0 rows found there.1))

  -- a new session's face is there, told nothing
  pub opened_then : (first : ℕ) (g : Rows K) → ListsAreInOrder cmp matching g → (k : Face K) × (find_face (g.made + 1) (rows_after_call cmp matching (NewSession first) g) ≡ Some k) × (k.told ≡ [])
  unfolding rows_heard parts_of altered_by said_by messages_for heard_all
  opened_then first g lists =
      let a = opened_session first g in
      let n = g.made + 1 in
      let apart : Each (λ h. (n == h.number) ≡ false) g.faces = each_weaker (λ h. h.number ≤ g.made) (λ h. (n == h.number) ≡ false) (λ h up. ne_eqb n h.number (λ e. omega (arith, e, up))) g.faces lists.faces_made in
      let f : Face K = new_face n Local NorthBound Client g.zid first in
      let found = found_last n f g.faces apart (eq-eqb n n refl) in
      (f, find_heard cmp matching n a.moment (λ m. []) a.faces ∙ ap (option_map (λ (f : Face K). heard_all cmp a.moment [] f)) found, refl)

  -- its number is no other's
  pub number_is_new : (g : Rows K) (n : ℕ) (f : Face K) → ListsAreInOrder cmp matching g → find_face n g ≡ Some f → (g.made + 1 == n) ≡ false
  number_is_new g n f lists found =
      let up : f.number ≤ g.made = find_each (λ h. h.number ≤ g.made) (λ h. n == h.number) g.faces f lists.faces_made found in
      let own : n ≡ f.number = eqb-true n f.number (find_passes (λ h. n == h.number) g.faces f found) in
      ne_eqb (g.made + 1) n (λ e. omega (arith, e, own, up))
