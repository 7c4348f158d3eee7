-- What is visible, after the rows of a face change.
use Rattle.std.proofs.Common.{◌≡◌, ℕ, ◌+◌, ◌≤◌, ◌<◌, Bool, true, false, not, if◌then◌else◌, ◌&&◌, ◌||◌, ◌==◌, List, [], ◌∷◌, ◌++◌, map, filter, flat_map, Some, None, refl, sym, ap, ◌∙◌, subst, arith, eqb-true, ne_eqb, eq-eqb, ⊎_elim}
use Rattle.std.proofs.lemmas.Bool.{and_parts, and_from, or_left, or_right, or_cases, not-false}
use Rattle.std.proofs.lemmas.Cmp.{ranked}
use Rattle.std.specs.Cmp.{IsTotalOrder}
use Rattle.std.specs.List.{list_any}
use Rattle.std.specs.Ordering.{nat_cmp}
use Rattle.std.specs.FinMap.Entries.{put, by_order}
use Rattle.std.specs.declared.cmp.Ordering.{Ordering}
use Rattle.std.specs.declared.cmp.Ordering.TheVariants.{Less, Equal, Greater}
use Rattle.zt_region.specs.declared.region.Region.{Region}
use Rattle.zt_region.specs.Admission.{admits}
use Rattle.zt_model.specs.Lists.{same, is_among, at_id, first_where, in_key_order, is_some_and, without_id}
use Rattle.zt_model.specs.Refusals.{is_token_id_in_use}
use Rattle.zt_model.specs.Rows.{ById, Face, Rows}
use Rattle.zt_model.specs.Says.{find_face, registered, unregistered, with_face}
use Rattle.zt_model.specs.Transcript.{Each}
use Rattle.zt_model.specs.Visible.{is_admitted, is_visible, live_rows, rows_of_face, routed_rows, shows, visible_expressions}
use Rattle.zt_laws.specs.Sound.{RiseFrom}
use Rattle.zt_laws.proofs.Keys.{InKeyOrder, among-in_key_order, and_back, in_key_order_is, same_is}
use Rattle.zt_laws.proofs.Lists.{by_test, never, each_weaker, map_same, any_weaker, any_alike, any-append, any-map, any-filter, any_from_filter, of_cond, rise_above}

-- ---- tests over lists of lists

pub any-flat_map : {A B : Type 0} (test : B → Bool) (rows : A → List B) (xs : List A) → list_any test (flat_map rows xs) ≡ list_any (λ x. list_any test (rows x)) xs
any-flat_map test rows [] = refl
any-flat_map test rows (x ∷ xs) = any-append test (rows x) (flat_map rows xs) ∙ ap (λ b. list_any test (rows x) || b) (any-flat_map test rows xs)

pub flat_map_map : {A B : Type 0} (rows : A → List B) (change : A → A) (xs : List A) → Each (λ x. rows (change x) ≡ rows x) xs → flat_map rows (map change xs) ≡ flat_map rows xs
flat_map_map rows change [] all = refl
flat_map_map rows change (x ∷ xs) all = let first : rows (change x) ≡ rows x = all.0 in let rest = flat_map_map rows change xs all.1 in cc

or_last : (a b t : Bool) → ((a || t) || b) ≡ ((a || b) || t)
or_last true b t = refl
or_last false true true = refl
or_last false true false = refl
or_last false false true = refl
or_last false false false = refl

or_grouped : (a b t : Bool) → (a || (b || t)) ≡ ((a || b) || t)
or_grouped true b t = refl
or_grouped false b t = refl

or_turned : (a b : Bool) → (a || b) ≡ (b || a)
or_turned true true = refl
or_turned true false = refl
or_turned false true = refl
or_turned false false = refl

or_again : (a b : Bool) → (a || b) ≡ ((a || b) || a)
or_again true b = refl
or_again false true = refl
or_again false false = refl

-- a row that a filter drops is spoken for by a test of its own
any_dropped : {A : Type 0} (test kept : A → Bool) (t : Bool) (xs : List A) → Each (λ x. kept x ≡ false → test x ≡ true → t ≡ true) xs → list_any test xs ≡ true → (list_any test (filter kept xs) || t) ≡ true
any_dropped test kept t [] all some = never some refl
any_dropped test kept t (x ∷ xs) all some =
    by_test (kept x)
    (λ here. rw here
    (⊎_elim (λ passes. or_left (test x || list_any test (filter kept xs)) t (or_left (test x) (list_any test (filter kept xs)) passes))
    (λ later. sym (or_grouped (test x) (list_any test (filter kept xs)) t) ∙ or_right (test x) (list_any test (filter kept xs) || t) (any_dropped test kept t xs all.1 later))
    (or_cases (test x) (list_any test xs) some)))
    (λ here. rw here
    (⊎_elim (λ passes. or_right (list_any test (filter kept xs)) t (all.0 here passes))
    (λ later. any_dropped test kept t xs all.1 later)
    (or_cases (test x) (list_any test xs) some)))

-- ---- the row under an id

-- where ids rise, the row of an id is the only one
pub at_only : {A : Type 0} (id low : ℕ) (rows : ById A) (v : A) → RiseFrom (λ row. row.0) low rows → at_id id rows ≡ Some v → Each (λ row. (id == row.0) ≡ true → row.1 ≡ v) rows
at_only id low [] v rises found = tt
at_only id low (row ∷ rows) v rises found =
    by_test (id == row.0)
    (λ here.
    let e : Some row.1 ≡ Some v = rw here at found in
    let same_ : row.1 ≡ v = cc in
    let is : id ≡ row.0 = eqb-true id row.0 here in
    (λ _. same_, each_weaker (λ other. row.0 + 1 ≤ other.0) (λ other. (id == other.0) ≡ true → other.1 ≡ v) (λ other above there. let is_too : id ≡ other.0 = eqb-true id other.0 there in absurd (omega arith)) rows (rise_above (λ other. other.0) (row.0 + 1) rows rises.1)))
    (λ here. (λ there. never there here, at_only id (row.0 + 1) rows v rises.1 (rw here at found)))

pub at_none : {A : Type 0} (id : ℕ) (rows : ById A) → at_id id rows ≡ None → Each (λ row. (id == row.0) ≡ false) rows
at_none id [] found = tt
at_none id (row ∷ rows) found =
    by_test (id == row.0) (λ here. let e : Some row.1 ≡ None = rw here at found in cc) (λ here. (here, at_none id rows (rw here at found)))

rise_put_at : {A : Type 0} (id low : ℕ) (v : A) (rows : ById A) → low ≤ id → RiseFrom (λ row. row.0) low rows → RiseFrom (λ row. row.0) low (put nat_cmp id v rows)
rise_put_at id low v [] h rises = (h, tt)
rise_put_at id low v (row ∷ rows) h rises =
    elim (nat_cmp id row.0) as (λ o. nat_cmp id row.0 ≡ o → RiseFrom (λ row. row.0) low (by_order o ((id, v) ∷ row ∷ rows) ((row.0, v) ∷ rows) (row ∷ put nat_cmp id v rows))) [
      | Less ↦ λ is. let less : id < row.0 = ranked id row.0 Less (sym is) in (h, (omega arith, rises.1))
      | Equal ↦ λ is. rises
      | Greater ↦ λ is. let more : row.0 < id = ranked id row.0 Greater (sym is) in (rises.0, rise_put_at id (row.0 + 1) v rows (omega arith) rises.1)
    ] refl

-- a row put in its place leaves the ids rising
pub rise_put : {A : Type 0} (id : ℕ) (v : A) (rows : ById A) → RiseFrom (λ row. row.0) 0 rows → RiseFrom (λ row. row.0) 0 (put nat_cmp id v rows)
rise_put id v rows rises = rise_put_at id 0 v rows (omega arith) rises

-- ---- live rows

-- rows that are the same as before, with other faces
pub live_rows_alike : {K : Type 0} (g : Rows K) (fs : List (Face K)) → flat_map rows_of_face fs ≡ flat_map rows_of_face g.faces → live_rows (record g { faces = fs }) ≡ live_rows g
live_rows_alike g fs h = ap (λ rows. rows ++ routed_rows g) h

pub rows_of_face_alike : {K : Type 0} (f h : Face K) → f.region ≡ h.region → f.live ≡ h.live → rows_of_face f ≡ rows_of_face h
rows_of_face_alike f h region_ live_ = ap (λ (r : Region). map (λ row. (r, row.1)) f.live) region_ ∙ ap (λ rows. map (λ row. (h.region, row.1)) rows) live_

pub any_live_rows : {K : Type 0} (test : Region × K → Bool) (g : Rows K) (fs : List (Face K)) → list_any test (live_rows (record g { faces = fs })) ≡ (list_any (λ f. list_any test (rows_of_face f)) fs || list_any test (routed_rows g))
any_live_rows test g fs = any-append test (flat_map rows_of_face fs) (routed_rows g) ∙ ap (λ b. b || list_any test (routed_rows g)) (any-flat_map test rows_of_face fs)

-- of faces whose numbers rise, those after a number stay
changed_rest : {K : Type 0} (n : ℕ) (change : Face K → Face K) (fs : List (Face K)) → RiseFrom (λ f. f.number) (n + 1) fs → map (λ f. if n == f.number then change f else f) fs ≡ fs
changed_rest n change fs rises =
    map_same (λ f. if n == f.number then change f else f) fs
    (each_weaker (λ f. n + 1 ≤ f.number) (λ f. (if n == f.number then change f else f) ≡ f) (λ f above. let miss : (n == f.number) ≡ false = ne_eqb n f.number (λ is. omega arith) in rw miss refl) fs (rise_above (λ f. f.number) (n + 1) fs rises))

-- ---- a token is registered

module _ {K : Type 0} (cmp : K → K → Ordering) (total : IsTotalOrder cmp) (equal_is_same : (a b : K) → cmp a b ≡ Equal → a ≡ b) where
  any_put : (test : Region × K → Bool) (r : Region) (id : ℕ) (e : K) (live : ById K) → is_some_and (at_id id live) (λ old. not (same cmp e old)) ≡ false
      → list_any (λ row. test (r, row.1)) (put nat_cmp id e live) ≡ (list_any (λ row. test (r, row.1)) live || test (r, e))
  any_put test r id e [] free = or_turned (test (r, e)) false
  any_put test r id e (row ∷ rows) free =
      elim (nat_cmp id row.0) as (λ o. nat_cmp id row.0 ≡ o → list_any (λ row. test (r, row.1)) (by_order o ((id, e) ∷ row ∷ rows) ((row.0, e) ∷ rows) (row ∷ put nat_cmp id e rows)) ≡ ((test (r, row.1) || list_any (λ row. test (r, row.1)) rows) || test (r, e))) [
        | Less ↦ λ is. or_turned (test (r, e)) (test (r, row.1) || list_any (λ row. test (r, row.1)) rows)
        | Equal ↦ λ is.
            let hit : (id == row.0) ≡ true = eq-eqb id row.0 (ranked id row.0 Equal (sym is)) in
            let other : not (same cmp e row.1) ≡ false = rw hit at free in
            let one : e ≡ row.1 = same_is cmp total equal_is_same e row.1 (not-false (same cmp e row.1) other) in
            or_again (test (r, e)) (list_any (λ row. test (r, row.1)) rows) ∙ ap (λ k. (test (r, k) || list_any (λ row. test (r, row.1)) rows) || test (r, e)) one
        | Greater ↦ λ is.
            let more : row.0 < id = ranked id row.0 Greater (sym is) in
            let miss : (id == row.0) ≡ false = ne_eqb id row.0 (λ same_. omega arith) in
            ap (λ b. test (r, row.1) || b) (any_put test r id e rows (rw miss at free)) ∙ or_grouped (test (r, row.1)) (list_any (λ row. test (r, row.1)) rows) (test (r, e))
      ] refl

  any_faces_put : (test : Region × K → Bool) (n id : ℕ) (e : K) (f : Face K) (low : ℕ) (fs : List (Face K)) → RiseFrom (λ f. f.number) low fs → first_where (λ f. n == f.number) fs ≡ Some f → is_token_id_in_use cmp id e f ≡ false
      → list_any (λ f. list_any test (rows_of_face f)) (map (λ f. if n == f.number then registered id e f else f) fs) ≡ (list_any (λ f. list_any test (rows_of_face f)) fs || test (f.region, e))
  any_faces_put test n id e f low [] rises found free = cc
  any_faces_put test n id e f low (h ∷ fs) rises found free =
      by_test (n == h.number)
      (λ here.
      let is_some_ : Some h ≡ Some f = rw here at found in
      let is : f ≡ h = cc in
      let number_ : h.number ≡ n = sym (eqb-true n h.number here) in
      let rest = changed_rest n (registered id e) fs (subst (λ k. RiseFrom (λ f. f.number) (k + 1) fs) number_ rises.1) in
      let free_ : is_token_id_in_use cmp id e h ≡ false = subst (λ k. is_token_id_in_use cmp id e k ≡ false) is free in
      let own = any-map test (λ (row : ℕ × K). (h.region, row.1)) (put nat_cmp id e h.live) ∙ any_put test h.region id e h.live free_ ∙ ap (λ b. b || test (h.region, e)) (sym (any-map test (λ (row : ℕ × K). (h.region, row.1)) h.live)) in
      rw here
      (ap (λ (k : Face K). list_any test (rows_of_face (registered id e h)) || list_any (λ f. list_any test (rows_of_face f)) (map (λ f. if n == f.number then registered id e f else f) fs)) is
      ∙ ap (λ ks. list_any test (rows_of_face (registered id e h)) || list_any (λ f. list_any test (rows_of_face f)) ks) rest
      ∙ ap (λ b. b || list_any (λ f. list_any test (rows_of_face f)) fs) own
      ∙ or_last (list_any test (rows_of_face h)) (list_any (λ f. list_any test (rows_of_face f)) fs) (test (h.region, e))
      ∙ ap (λ (k : Face K). (list_any test (rows_of_face h) || list_any (λ f. list_any test (rows_of_face f)) fs) || test (k.region, e)) (sym is)))
      (λ here. rw here
      (ap (λ b. list_any test (rows_of_face h) || b) (any_faces_put test n id e f (h.number + 1) fs rises.1 (rw here at found) free)
      ∙ or_grouped (list_any test (rows_of_face h)) (list_any (λ f. list_any test (rows_of_face f)) fs) (test (f.region, e))))

  -- registering a token adds its row to the live rows
  pub any_registered : (test : Region × K → Bool) (n id : ℕ) (e : K) (f : Face K) (g : Rows K) → RiseFrom (λ f. f.number) 1 g.faces → find_face n g ≡ Some f → is_token_id_in_use cmp id e f ≡ false
      → list_any test (live_rows (with_face n (registered id e) g)) ≡ (list_any test (live_rows g) || test (f.region, e))
  unfolding with_face
  any_registered test n id e f g rises found free =
      any_live_rows test g (map (λ f. if n == f.number then registered id e f else f) g.faces)
      ∙ ap (λ b. b || list_any test (routed_rows g)) (any_faces_put test n id e f 1 g.faces rises found free)
      ∙ or_last (list_any (λ f. list_any test (rows_of_face f)) g.faces) (list_any test (routed_rows g)) (test (f.region, e))
      ∙ ap (λ b. b || test (f.region, e)) (sym (any_live_rows test g g.faces))

module _ {K : Type 0} where
  any_row_gone : (test : Region × K → Bool) (r : Region) (id : ℕ) (e : K) (live : ById K) → Each (λ row. (id == row.0) ≡ true → row.1 ≡ e) live → list_any (λ row. test (r, row.1)) live ≡ true → (list_any (λ row. test (r, row.1)) (without_id id live) || test (r, e)) ≡ true
  any_row_gone test r id e live only some =
      any_dropped (λ (row : ℕ × K). test (r, row.1)) (λ row. not (id == row.0)) (test (r, e)) live
      (each_weaker (λ row. (id == row.0) ≡ true → row.1 ≡ e) (λ row. not (id == row.0) ≡ false → test (r, row.1) ≡ true → test (r, e) ≡ true) (λ row only_ dropped passes. subst (λ k. test (r, k) ≡ true) (only_ (not-false (id == row.0) dropped)) passes) live only)
      some

  any_faces_gone : (test : Region × K → Bool) (n id : ℕ) (e : K) (f : Face K) (low : ℕ) (fs : List (Face K)) → RiseFrom (λ f. f.number) low fs → first_where (λ f. n == f.number) fs ≡ Some f → Each (λ row. (id == row.0) ≡ true → row.1 ≡ e) f.live
      → list_any (λ f. list_any test (rows_of_face f)) fs ≡ true → (list_any (λ f. list_any test (rows_of_face f)) (map (λ f. if n == f.number then unregistered id f else f) fs) || test (f.region, e)) ≡ true
  any_faces_gone test n id e f low [] rises found only some = never some refl
  any_faces_gone test n id e f low (h ∷ fs) rises found only some =
      by_test (n == h.number)
      (λ here.
      let is_some_ : Some h ≡ Some f = rw here at found in
      let is : f ≡ h = cc in
      let number_ : h.number ≡ n = sym (eqb-true n h.number here) in
      let rest = changed_rest n (unregistered id) fs (subst (λ k. RiseFrom (λ f. f.number) (k + 1) fs) number_ rises.1) in
      let only_here : Each (λ row. (id == row.0) ≡ true → row.1 ≡ e) h.live = subst (λ (k : Face K). Each (λ row. (id == row.0) ≡ true → row.1 ≡ e) k.live) is only in
      let own : list_any test (rows_of_face h) ≡ true → (list_any test (rows_of_face (unregistered id h)) || test (h.region, e)) ≡ true =
      λ passes. ap (λ b. b || test (h.region, e)) (any-map test (λ (row : ℕ × K). (h.region, row.1)) (without_id id h.live)) ∙ any_row_gone test h.region id e h.live only_here (sym (any-map test (λ (row : ℕ × K). (h.region, row.1)) h.live) ∙ passes) in
      rw here
      (ap (λ (k : Face K). (list_any test (rows_of_face (unregistered id h)) || list_any (λ f. list_any test (rows_of_face f)) (map (λ f. if n == f.number then unregistered id f else f) fs)) || test (k.region, e)) is
      ∙ ap (λ ks. (list_any test (rows_of_face (unregistered id h)) || list_any (λ f. list_any test (rows_of_face f)) ks) || test (h.region, e)) rest
      ∙ sym (or_last (list_any test (rows_of_face (unregistered id h))) (list_any (λ f. list_any test (rows_of_face f)) fs) (test (h.region, e)))
      ∙ ⊎_elim (λ passes. or_left (list_any test (rows_of_face (unregistered id h)) || test (h.region, e)) (list_any (λ f. list_any test (rows_of_face f)) fs) (own passes)) (λ later. or_right (list_any test (rows_of_face (unregistered id h)) || test (h.region, e)) (list_any (λ f. list_any test (rows_of_face f)) fs) later) (or_cases (list_any test (rows_of_face h)) (list_any (λ f. list_any test (rows_of_face f)) fs) some)))
      (λ here. rw here
      (sym (or_grouped (list_any test (rows_of_face h)) (list_any (λ f. list_any test (rows_of_face f)) (map (λ f. if n == f.number then unregistered id f else f) fs)) (test (f.region, e)))
      ∙ ⊎_elim (λ passes. or_left (list_any test (rows_of_face h)) (list_any (λ f. list_any test (rows_of_face f)) (map (λ f. if n == f.number then unregistered id f else f) fs) || test (f.region, e)) passes)
      (λ later. or_right (list_any test (rows_of_face h)) (list_any (λ f. list_any test (rows_of_face f)) (map (λ f. if n == f.number then unregistered id f else f) fs) || test (f.region, e)) (any_faces_gone test n id e f (h.number + 1) fs rises.1 (rw here at found) only later))
      (or_cases (list_any test (rows_of_face h)) (list_any (λ f. list_any test (rows_of_face f)) fs) some)))

  -- taking a token away takes no other live row
  pub any_unregistered : (test : Region × K → Bool) (n id : ℕ) (e : K) (f : Face K) (g : Rows K) → RiseFrom (λ f. f.number) 1 g.faces → find_face n g ≡ Some f → Each (λ row. (id == row.0) ≡ true → row.1 ≡ e) f.live
      → list_any test (live_rows g) ≡ true → (list_any test (live_rows (with_face n (unregistered id) g)) || test (f.region, e)) ≡ true
  unfolding with_face
  any_unregistered test n id e f g rises found only some =
      let faces = λ (fs : List (Face K)). list_any (λ f. list_any test (rows_of_face f)) fs in
      let after = map (λ f. if n == f.number then unregistered id f else f) g.faces in
      ap (λ b. b || test (f.region, e)) (any_live_rows test g after)
      ∙ sym (or_last (faces after) (list_any test (routed_rows g)) (test (f.region, e)))
      ∙ ⊎_elim (λ here. or_left (faces after || test (f.region, e)) (list_any test (routed_rows g)) (any_faces_gone test n id e f 1 g.faces rises found only here))
      (λ there. or_right (faces after || test (f.region, e)) (list_any test (routed_rows g)) there)
      (or_cases (faces g.faces) (list_any test (routed_rows g)) (sym (any_live_rows test g g.faces) ∙ some))

  -- and adds none
  pub any_still : (test : Region × K → Bool) (n id : ℕ) (g : Rows K) → list_any test (live_rows (with_face n (unregistered id) g)) ≡ true → list_any test (live_rows g) ≡ true
  unfolding with_face
  any_still test n id g some =
      let faces = λ (fs : List (Face K)). list_any (λ f. list_any test (rows_of_face f)) fs in
      let change = λ (f : Face K). if n == f.number then unregistered id f else f in
      let kept = λ (f : Face K) (h : list_any test (rows_of_face (unregistered id f)) ≡ true).
      any-map test (λ (row : ℕ × K). (f.region, row.1)) f.live
      ∙ any_from_filter (λ (row : ℕ × K). test (f.region, row.1)) (λ row. not (id == row.0)) f.live (sym (any-map test (λ (row : ℕ × K). (f.region, row.1)) (without_id id f.live)) ∙ h) in
      let still : faces (map change g.faces) ≡ true → faces g.faces ≡ true =
      λ h. any_weaker (λ f. list_any test (rows_of_face (change f))) (λ f. list_any test (rows_of_face f))
      (λ f. of_cond (λ k. list_any test (rows_of_face k) ≡ true → list_any test (rows_of_face f) ≡ true) (n == f.number) (unregistered id f) f (λ _. kept f) (λ _ passes. passes))
      g.faces (sym (any-map (λ f. list_any test (rows_of_face f)) change g.faces) ∙ h) in
      any_live_rows test g g.faces
      ∙ ⊎_elim (λ here. or_left (faces g.faces) (list_any test (routed_rows g)) (still here)) (λ there. or_right (faces g.faces) (list_any test (routed_rows g)) there)
      (or_cases (faces (map change g.faces)) (list_any test (routed_rows g)) (sym (any_live_rows test g (map change g.faces)) ∙ some))

module _ {K : Type 0} (cmp : K → K → Ordering) where
  pub visible_still : (own : Region) (x : K) (n id : ℕ) (g : Rows K) → is_visible cmp (with_face n (unregistered id) g) own x ≡ true → is_visible cmp g own x ≡ true
  unfolding is_visible with_face
  visible_still own x n id g some = any_still (λ row. same cmp x row.1 && shows g.mode own row.0) n id g some

  -- what is admitted is visible
  pub admitted_visible : (g : Rows K) (own : Region) (x : K) → is_admitted cmp g own x ≡ true → is_visible cmp g own x ≡ true
  unfolding is_visible is_admitted
  admitted_visible g own x some =
      any_weaker (λ row. same cmp x row.1 && (shows g.mode own row.0 && admits g.refused row.0 own)) (λ row. same cmp x row.1 && shows g.mode own row.0)
      (λ row h.
      let parts = and_parts (same cmp x row.1) (shows g.mode own row.0 && admits g.refused row.0 own) h in
      and_from (same cmp x row.1) (shows g.mode own row.0) parts.0 (and_parts (shows g.mode own row.0) (admits g.refused row.0 own) parts.1).0)
      (live_rows g) some

  -- ---- rows with the same live rows

  pub visible_alike : (g : Rows K) (fs : List (Face K)) (own : Region) (x : K) → flat_map rows_of_face fs ≡ flat_map rows_of_face g.faces → is_visible cmp (record g { faces = fs }) own x ≡ is_visible cmp g own x
  unfolding is_visible
  visible_alike g fs own x h = ap (list_any (λ row. same cmp x row.1 && shows g.mode own row.0)) (live_rows_alike g fs h)

  pub visible_expressions_alike : (g : Rows K) (fs : List (Face K)) (own : Region) → flat_map rows_of_face fs ≡ flat_map rows_of_face g.faces → visible_expressions cmp (record g { faces = fs }) own ≡ visible_expressions cmp g own
  unfolding visible_expressions
  visible_expressions_alike g fs own h = ap (λ (rows : List (Region × K)). in_key_order cmp (map (λ row. row.1) (filter (λ row. shows g.mode own row.0) rows))) (live_rows_alike g fs h)

  module _ (total : IsTotalOrder cmp) where
    -- the visible expressions are those that are visible, in key order
    pub visible_expressions_in_order : (g : Rows K) (own : Region) → InKeyOrder cmp (visible_expressions cmp g own)
    unfolding visible_expressions
    visible_expressions_in_order g own = in_key_order_is cmp total (map (λ row. row.1) (filter (λ row. shows g.mode own row.0) (live_rows g)))

    pub among-visible_expressions : (g : Rows K) (own : Region) (x : K) → is_among cmp x (visible_expressions cmp g own) ≡ is_visible cmp g own x
    unfolding visible_expressions is_visible
    among-visible_expressions g own x =
        among-in_key_order cmp total x (map (λ row. row.1) (filter (λ row. shows g.mode own row.0) (live_rows g)))
        ∙ any-map (same cmp x) (λ (row : Region × K). row.1) (filter (λ row. shows g.mode own row.0) (live_rows g))
        ∙ any-filter (λ row. same cmp x row.1) (λ row. shows g.mode own row.0) (live_rows g)
        ∙ any_alike (λ row. shows g.mode own row.0 && same cmp x row.1) (λ row. same cmp x row.1 && shows g.mode own row.0) (λ row. and_back (shows g.mode own row.0) (same cmp x row.1)) (live_rows g)
