-- What is found among rows by id, as rows come and go.
use Rattle.std.proofs.Common.{◌≡◌, ℕ, ◌==◌, Bool, true, false, not, if◌then◌else◌, Some, None, List, [], ◌∷◌, ◌<◌, filter, length, map, refl, ap, sym, subst, ◌∙◌, arith, eq-eqb, ne_eqb}
use Rattle.std.proofs.lemmas.Bool.{eqb-true}
use Rattle.std.proofs.lemmas.Cmp.{ranked}
use Rattle.std.proofs.lemmas.Map.Keys.{sorted_head, sorted_tail}
use Rattle.std.proofs.lemmas.Map.Lookups.{btree_set_from_contains, exact_unsigned}
use Rattle.std.specs.BTreeMap.{is_at}
use Rattle.std.specs.BTreeSet.{BTreeSet}
use Rattle.std.specs.Cmp.{eq_by_cmp_equiv, nat_cmp_total, unsigned_tied}
use Rattle.std.specs.FinMap.Entries.{by_order, put}
use Rattle.std.specs.List.{AllByRecursion, list_any}
use Rattle.std.specs.List.Sorted.{IsStrictlySortedBy}
use Rattle.std.specs.Map.{keys_of, set_value}
use Rattle.std.specs.Ordering.{is_eq, nat_cmp}
use Rattle.std.specs.declared.cmp.Ordering.TheVariants.{Less, Equal, Greater}
use Rattle.zt_keys.specs.Test.{by_test}
use Rattle.zt_rows.specs.ById.{IsInOrder}
use Rattle.zt_model.specs.Lists.{at_id, is_some_and, without_id}
use Rattle.zt_model.specs.Rows.{ById}

-- a test of two ids, the other way round
pub turned : (a b : ℕ) → (a == b) ≡ is_eq (nat_cmp b a)
turned a b = sym (unsigned_tied a b) ∙ (eq_by_cmp_equiv nat_cmp_total).symm a b

abbrev is_in : ℕ → List ℕ → Bool
is_in n ids = list_any (is_at (nat_cmp n)) ids

-- ---- a row that is put, and one that goes

module _ {A : Type 0} where
  abbrev IsBelow : ℕ → ById A → Type 0
  IsBelow n rows = AllByRecursion (λ k. nat_cmp n k ≡ Less) (keys_of rows)

  at_put_here : (id : ℕ) (v : A) (rows : ById A) → at_id id (put nat_cmp id v rows) ≡ Some v
  at_put_here id v [] = rw (eq-eqb id id refl) refl
  at_put_here id v (row ∷ rows) =
      elim (nat_cmp id row.0) as (λ o. nat_cmp id row.0 ≡ o → at_id id (by_order o ((id, v) ∷ row ∷ rows) ((row.0, v) ∷ rows) (row ∷ put nat_cmp id v rows)) ≡ Some v) [
        | Less ↦ λ is. rw (eq-eqb id id refl) refl
        | Equal ↦ λ is. rw (eq-eqb id row.0 (ranked id row.0 Equal (sym is))) refl
        | Greater ↦ λ is. let more : row.0 < id = ranked id row.0 Greater (sym is) in rw (ne_eqb id row.0 (λ one. omega arith)) (at_put_here id v rows)
      ] refl

  at_put_other : (k id : ℕ) (v : A) (rows : ById A) → (k == id) ≡ false → at_id k (put nat_cmp id v rows) ≡ at_id k rows
  at_put_other k id v [] apart = rw apart refl
  at_put_other k id v (row ∷ rows) apart =
      elim (nat_cmp id row.0) as (λ o. nat_cmp id row.0 ≡ o → at_id k (by_order o ((id, v) ∷ row ∷ rows) ((row.0, v) ∷ rows) (row ∷ put nat_cmp id v rows)) ≡ at_id k (row ∷ rows)) [
        | Less ↦ λ is. rw apart refl
        | Equal ↦ λ is. let one : id ≡ row.0 = ranked id row.0 Equal (sym is) in let miss : (k == row.0) ≡ false = ap (λ j. k == j) (sym one) ∙ apart in rw miss refl
        | Greater ↦ λ is. by_test (k == row.0) (λ here. rw here refl) (λ here. rw here (at_put_other k id v rows apart))
      ] refl

  -- the row under an id where one is put
  pub at_put : (n id : ℕ) (v : A) (rows : ById A) → at_id n (put nat_cmp id v rows) ≡ (if id == n then Some v else at_id n rows)
  at_put n id v rows =
      by_test (id == n)
      (λ t. rw t (subst (λ k. at_id k (put nat_cmp id v rows) ≡ Some v) (eqb-true id n t) (at_put_here id v rows)))
      (λ t. let apart : (n == id) ≡ false = turned n id ∙ unsigned_tied id n ∙ t in rw t (at_put_other n id v rows apart))

  -- and where one goes
  pub at_without : (n id : ℕ) (rows : ById A) → at_id n (without_id id rows) ≡ (if id == n then None else at_id n rows)
  at_without n id [] = by_test (id == n) (λ t. rw t refl) (λ t. rw t refl)
  at_without n id (row ∷ rows) =
      let rest = at_without n id rows in
      by_test (id == row.0)
      (λ gone. by_test (id == n)
      (λ t. rw (gone, t) (rw t at rest))
      (λ t.
      let other : (n == row.0) ≡ false = ap (λ k. n == k) (sym (eqb-true id row.0 gone)) ∙ turned n id ∙ unsigned_tied id n ∙ t in
      rw (gone, t, other) (rw t at rest)))
      (λ kept. by_test (n == row.0)
      (λ own. let apart : (id == n) ≡ false = ap (λ k. id == k) (eqb-true n row.0 own) ∙ kept in rw (kept, own, apart) refl)
      (λ other. rw (kept, other) rest))

  pub absent_kept : (id : ℕ) (rows : ById A) → at_id id rows ≡ None → without_id id rows ≡ rows
  absent_kept id [] absent = refl
  absent_kept id (row ∷ rows) absent =
      by_test (id == row.0)
      (λ t. let found : Some row.1 ≡ None = rw t at absent in cc)
      (λ t. rw t (ap (λ r. row ∷ r) (absent_kept id rows (rw t at absent))))

  -- what is put where nothing stood is taken away again
  pub put_undone : (id : ℕ) (v : A) (rows : ById A) → at_id id rows ≡ None → without_id id (put nat_cmp id v rows) ≡ rows
  put_undone id v [] absent = rw (eq-eqb id id refl) refl
  put_undone id v (row ∷ rows) absent =
      elim (nat_cmp id row.0) as (λ o. nat_cmp id row.0 ≡ o → without_id id (by_order o ((id, v) ∷ row ∷ rows) ((row.0, v) ∷ rows) (row ∷ put nat_cmp id v rows)) ≡ row ∷ rows) [
        | Less ↦ λ is. rw (eq-eqb id id refl) (absent_kept id (row ∷ rows) absent)
        | Equal ↦ λ is. let here : (id == row.0) ≡ true = sym (unsigned_tied id row.0) ∙ ap is_eq is in let found : Some row.1 ≡ None = rw here at absent in cc
        | Greater ↦ λ is. let there : (id == row.0) ≡ false = sym (unsigned_tied id row.0) ∙ ap is_eq is in rw there (ap (λ r. row ∷ r) (put_undone id v rows (rw there at absent)))
      ] refl

  pub put_below : (id : ℕ) (v : A) (rows : ById A) → IsBelow id rows → put nat_cmp id v rows ≡ (id, v) ∷ rows
  put_below id v [] below = refl
  put_below id v (row ∷ rows) below = ap (λ o. by_order o ((id, v) ∷ row ∷ rows) ((row.0, v) ∷ rows) (row ∷ put nat_cmp id v rows)) below.0

  pub below_absent : (id : ℕ) (rows : ById A) → IsBelow id rows → at_id id rows ≡ None
  below_absent id [] below = refl
  below_absent id (row ∷ rows) below = rw (sym (unsigned_tied id row.0) ∙ ap is_eq below.0) (below_absent id rows below.1)

  below_more : (id n : ℕ) (rows : ById A) → nat_cmp id n ≡ Less → IsBelow n rows → IsBelow id rows
  below_more id n [] less below = tt
  below_more id n (row ∷ rows) less below = (nat_cmp_total.trans id n row.0 less below.0, below_more id n rows less below.1)

  head_below : (row : ℕ × A) (rows : ById A) → IsInOrder (row ∷ rows) → IsBelow row.0 rows
  head_below row rows ordered = sorted_head nat_cmp row.0 (keys_of rows) ordered

  -- a row that is put takes the place of one that goes
  pub put_again : (id : ℕ) (v : A) (rows : ById A) → IsInOrder rows → put nat_cmp id v (without_id id rows) ≡ put nat_cmp id v rows
  put_again id v [] ordered = refl
  put_again id v (row ∷ rows) ordered =
      elim (nat_cmp id row.0) as (λ o. nat_cmp id row.0 ≡ o → put nat_cmp id v (without_id id (row ∷ rows)) ≡ by_order o ((id, v) ∷ row ∷ rows) ((row.0, v) ∷ rows) (row ∷ put nat_cmp id v rows)) [
        | Less ↦ λ is.
            let there : (id == row.0) ≡ false = sym (unsigned_tied id row.0) ∙ ap is_eq is in
            let none = absent_kept id rows (below_absent id rows (below_more id row.0 rows is (head_below row rows ordered))) in
            rw (there, none) (ap (λ o. by_order o ((id, v) ∷ row ∷ rows) ((row.0, v) ∷ rows) (row ∷ put nat_cmp id v rows)) is)
        | Equal ↦ λ is.
            let here : (id == row.0) ≡ true = sym (unsigned_tied id row.0) ∙ ap is_eq is in
            let one : id ≡ row.0 = eqb-true id row.0 here in
            let below = subst (λ n. IsBelow n rows) (sym one) (head_below row rows ordered) in
            rw (here, absent_kept id rows (below_absent id rows below)) (put_below id v rows below ∙ ap (λ n. (n, v) ∷ rows) one)
        | Greater ↦ λ is.
            let there : (id == row.0) ≡ false = sym (unsigned_tied id row.0) ∙ ap is_eq is in
            rw there (ap (λ o. by_order o ((id, v) ∷ row ∷ without_id id rows) ((row.0, v) ∷ without_id id rows) (row ∷ put nat_cmp id v (without_id id rows))) is ∙ ap (λ r. row ∷ r) (put_again id v rows (sorted_tail nat_cmp row.0 (keys_of rows) ordered)))
      ] refl

  -- what is put where a row stands takes its place
  pub put_there : (id : ℕ) (old v : A) (rows : ById A) → IsInOrder rows → at_id id rows ≡ Some old → put nat_cmp id v rows ≡ set_value (is_at (nat_cmp id)) rows v
  put_there id old v [] ordered is = cc
  put_there id old v (row ∷ rows) ordered is =
      elim (nat_cmp id row.0) as (λ o. nat_cmp id row.0 ≡ o → by_order o ((id, v) ∷ row ∷ rows) ((row.0, v) ∷ rows) (row ∷ put nat_cmp id v rows) ≡ (if is_eq o then (row.0, v) ∷ rows else row ∷ set_value (is_at (nat_cmp id)) rows v)) [
        | Less ↦ λ less.
            let none = below_absent id (row ∷ rows) (less, below_more id row.0 rows less (head_below row rows ordered)) in
            let found : Some old ≡ None = sym is ∙ none in
            cc
        | Equal ↦ λ _. refl
        | Greater ↦ λ more.
            let there : (id == row.0) ≡ false = sym (unsigned_tied id row.0) ∙ ap is_eq more in
            ap (λ r. row ∷ r) (put_there id old v rows (sorted_tail nat_cmp row.0 (keys_of rows) ordered) (rw there at is))
      ] refl

  -- ---- some of the rows

  some_below : (n : ℕ) (p : ℕ × A → Bool) (rows : ById A) → AllByRecursion (λ k. nat_cmp n k ≡ Less) (keys_of rows) → AllByRecursion (λ k. nat_cmp n k ≡ Less) (keys_of (filter p rows))
  some_below n p [] below = tt
  some_below n p (row ∷ rows) below = by_test (p row) (λ t. rw t (below.0, some_below n p rows below.1)) (λ t. rw t (some_below n p rows below.1))

  -- some of the rows stand in order too
  pub some_ordered : (p : ℕ × A → Bool) (rows : ById A) → IsInOrder rows → IsInOrder (filter p rows)
  unfolding IsStrictlySortedBy
  some_ordered p [] ordered = tt
  some_ordered p (row ∷ rows) ordered = by_test (p row) (λ t. rw t (some_below row.0 p rows ordered.0, some_ordered p rows ordered.1)) (λ t. rw t (some_ordered p rows ordered.1))

  none_in : (n : ℕ) (p : ℕ × A → Bool) (rows : ById A) → IsBelow n rows → is_in n (keys_of (filter p rows)) ≡ false
  none_in n p [] below = refl
  none_in n p (row ∷ rows) below =
      let rest = none_in n p rows below.1 in
      by_test (p row) (λ t. rw (t, below.0) rest) (λ t. rw t rest)

  -- an id is among those of some where its row passes
  some_in : (n : ℕ) (p : A → Bool) (rows : ById A) → IsInOrder rows → is_in n (keys_of (filter (λ row. p row.1) rows)) ≡ is_some_and (at_id n rows) p
  some_in n p [] ordered = refl
  some_in n p (row ∷ rows) ordered =
      let rest = some_in n p rows (sorted_tail nat_cmp row.0 (keys_of rows) ordered) in
      by_test (n == row.0)
      (λ here.
      let tied : is_eq (nat_cmp n row.0) ≡ true = unsigned_tied n row.0 ∙ here in
      let none = none_in n (λ r. p r.1) rows (subst (λ k. IsBelow k rows) (sym (eqb-true n row.0 here)) (head_below row rows ordered)) in
      by_test (p row.1) (λ t. rw (here, t, tied) refl) (λ t. rw (here, t) none))
      (λ there.
      let apart : is_eq (nat_cmp n row.0) ≡ false = unsigned_tied n row.0 ∙ there in
      by_test (p row.1) (λ t. rw (there, t, apart) rest) (λ t. rw (there, t) rest))

  -- ids in order that are those of the rows that pass
  pub same_ids : (ids : List ℕ) (p : A → Bool) (rows : ById A) → IsStrictlySortedBy nat_cmp ids → IsInOrder rows
      → ((n : ℕ) → list_any (is_at (nat_cmp n)) ids ≡ is_some_and (at_id n rows) p) → ids ≡ map (λ row. row.0) (filter (λ row. p row.1) rows)
  same_ids ids p rows rising ordered same =
      let set : BTreeSet ℕ = record { keys = ids } in
      let others : BTreeSet ℕ = record { keys = keys_of (filter (λ row. p row.1) rows) } in
      btree_set_from_contains nat_cmp_total set others rising (some_ordered (λ row. p row.1) rows ordered) (λ n. same n ∙ sym (some_in n p rows ordered)) exact_unsigned

  -- whether any row passes
  pub some_pass : (ids : List ℕ) (p : ℕ × A → Bool) (rows : ById A) → ids ≡ map (λ row. row.0) (filter p rows) → not (length ids == 0) ≡ list_any p rows
  some_pass ids p rows is = ap (λ xs. not (length xs == 0)) is ∙ passes rows
    where
      passes : (rows : ById A) → not (length (map (λ row. row.0) (filter p rows)) == 0) ≡ list_any p rows
      passes [] = refl
      passes (row ∷ rows) = by_test (p row) (λ t. rw (t, ne_eqb (length (row.0 ∷ map (λ r. r.0) (filter p rows))) 0 (omega arith)) refl) (λ t. rw t (passes rows))
