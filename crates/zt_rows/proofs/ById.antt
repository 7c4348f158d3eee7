-- A map by number, seen as rows by id.
use Rattle.std.proofs.Common.{◌≡◌, ℕ, ◌==◌, true, false, ◌||◌, not, if◌then◌else◌, Option, Some, None, is_some, List, [], ◌∷◌, ◌++◌, map, refl, ap, sym, subst, ◌∙◌}
use Rattle.std.proofs.lemmas.Bool.{eqb-true}
use Rattle.std.proofs.lemmas.Map.Keys.{sorted_head, sorted_tail}
use Rattle.std.specs.BTreeMap.{insert_entry, is_at}
use Rattle.std.specs.Cmp.{unsigned_tied, nat_cmp_total}
use Rattle.std.specs.FinMap.Entries.{by_order, put}
use Rattle.std.specs.List.{AllByRecursion}
use Rattle.std.specs.Map.{keys_of, lookup, remove_entry, set_value}
use Rattle.std.specs.Ordering.{is_eq, match_ordering, nat_cmp, ordering_reverse}
use Rattle.std.specs.declared.cmp.Ordering.TheVariants.{Less, Equal, Greater}
use Rattle.zt_rows.specs.ById.{IsAbove, IsInOrder}
use Rattle.zt_model.specs.Lists.{at_id, has_id, without_id}

module _ {A : Type 0} where
  -- ---- what a map's calls are

  pub put_is : (id : ℕ) (v : A) (rows : List (ℕ × A)) → insert_entry nat_cmp rows id v ≡ put nat_cmp id v rows
  put_is id v [] = refl
  put_is id v (row ∷ rows) =
      elim (nat_cmp id row.0) as (λ o.
      match_ordering o ((id, v) ∷ row ∷ rows) ((row.0, v) ∷ rows) (row ∷ insert_entry nat_cmp rows id v)
      ≡ by_order o ((id, v) ∷ row ∷ rows) ((row.0, v) ∷ rows) (row ∷ put nat_cmp id v rows)) [
        | Less ↦ refl
        | Equal ↦ refl
        | Greater ↦ ap (λ r. row ∷ r) (put_is id v rows)
      ]

  pub at_is : (id : ℕ) (rows : List (ℕ × A)) → lookup (is_at (nat_cmp id)) rows ≡ at_id id rows
  at_is id [] = refl
  at_is id (row ∷ rows) =
      ap (λ b. if b then Some row.1 else lookup (is_at (nat_cmp id)) rows) (unsigned_tied id row.0)
      ∙ ap (λ (o : Option A). if id == row.0 then Some row.1 else o) (at_is id rows)

  pub has_is : (id : ℕ) (rows : List (ℕ × A)) → is_some (at_id id rows) ≡ has_id id rows
  has_is id [] = refl
  has_is id (row ∷ rows) =
      elim (id == row.0) as (λ b. is_some (if b then Some row.1 else at_id id rows) ≡ (b || has_id id rows)) [
        | true ↦ refl
        | false ↦ has_is id rows
      ]

  -- an id that is below all others stands nowhere
  pub below_all_absent : (id : ℕ) (rows : List (ℕ × A)) → AllByRecursion (λ k. nat_cmp id k ≡ Less) (keys_of rows) → without_id id rows ≡ rows
  below_all_absent id [] below = refl
  below_all_absent id (row ∷ rows) below =
      ap (λ b. if not b then row ∷ without_id id rows else without_id id rows) (sym (unsigned_tied id row.0) ∙ ap is_eq below.0)
      ∙ ap (λ r. row ∷ r) (below_all_absent id rows below.1)

  pub remove_is : (id : ℕ) (rows : List (ℕ × A)) → IsInOrder rows → remove_entry (is_at (nat_cmp id)) rows ≡ without_id id rows
  remove_is id [] ordered = refl
  remove_is id (row ∷ rows) ordered =
      ap (λ b. if b then rows else row ∷ remove_entry (is_at (nat_cmp id)) rows) (unsigned_tied id row.0)
      ∙ elim (id == row.0) as (λ b. (id == row.0) ≡ b → (if b then rows else row ∷ remove_entry (is_at (nat_cmp id)) rows) ≡ (if not b then row ∷ without_id id rows else without_id id rows)) [
        | true ↦ λ here. sym (below_all_absent id rows (subst (λ n. AllByRecursion (λ k. nat_cmp n k ≡ Less) (keys_of rows)) (sym (eqb-true id row.0 here)) (sorted_head nat_cmp row.0 (keys_of rows) ordered)))
        | false ↦ λ _. ap (λ r. row ∷ r) (remove_is id rows (sorted_tail nat_cmp row.0 (keys_of rows) ordered))
      ] refl

  -- ---- rows in order

  -- an id above all others is put behind them
  pub put_behind : (id : ℕ) (v : A) (rows : List (ℕ × A)) → IsAbove id rows → put nat_cmp id v rows ≡ rows ++ (id, v) ∷ []
  put_behind id v [] above = refl
  put_behind id v (row ∷ rows) above =
      ap (λ o. by_order o ((id, v) ∷ row ∷ rows) ((row.0, v) ∷ rows) (row ∷ put nat_cmp id v rows)) above.0
      ∙ ap (λ r. row ∷ r) (put_behind id v rows above.1)

  less_last : (x : ℕ) (rows rest : List (ℕ × A)) (row : ℕ × A) → AllByRecursion (λ k. nat_cmp x k ≡ Less) (keys_of (rows ++ row ∷ rest)) → nat_cmp x row.0 ≡ Less
  less_last x [] rest row less = less.0
  less_last x (other ∷ rows) rest row less = less_last x rows rest row less.1

  -- a row that stands behind others in order has an id above theirs
  pub above_those_before : (rows rest : List (ℕ × A)) (row : ℕ × A) → IsInOrder (rows ++ row ∷ rest) → IsAbove row.0 rows
  above_those_before [] rest row ordered = tt
  above_those_before (other ∷ rows) rest row ordered = (
    nat_cmp_total.antisymm row.0 other.0 ∙ ap ordering_reverse (less_last other.0 rows rest row (sorted_head nat_cmp other.0 (keys_of (rows ++ row ∷ rest)) ordered)),
    above_those_before rows rest row (sorted_tail nat_cmp other.0 (keys_of (rows ++ row ∷ rest)) ordered),
  )

  -- one row more of a copy
  pub copied_more : (copies rest left all after : List (ℕ × A)) (row : ℕ × A) → IsInOrder all → copies ++ rest ≡ all → rest ≡ row ∷ left → after ≡ put nat_cmp row.0 row.1 copies → after ++ left ≡ all
  copied_more copies rest left all after row ordered so_far first put_ =
      let whole : copies ++ row ∷ left ≡ all = ap (λ r. copies ++ r) (sym first) ∙ so_far in
      ap (λ r. r ++ left) (put_ ∙ put_behind row.0 row.1 copies (above_those_before copies left row (subst IsInOrder (sym whole) ordered)))
      ∙ behind copies
      ∙ whole
    where
      behind : (xs : List (ℕ × A)) → (xs ++ row ∷ []) ++ left ≡ xs ++ row ∷ left
      behind [] = refl
      behind (x ∷ xs) = ap (λ r. x ∷ r) (behind xs)

  -- ---- a change of the row under an id

  module _ (id : ℕ) (change : A → A) (f : ℕ × A → ℕ × A) (here : (row : ℕ × A) → (id == row.0) ≡ true → f row ≡ (row.0, change row.1)) (there : (row : ℕ × A) → (id == row.0) ≡ false → f row ≡ row) where
    pub unchanged : (rows : List (ℕ × A)) → at_id id rows ≡ None → map f rows ≡ rows
    unchanged [] none_ = refl
    unchanged (row ∷ rows) none_ =
        elim (id == row.0) as (λ b. (id == row.0) ≡ b → (if b then Some row.1 else at_id id rows) ≡ None → map f (row ∷ rows) ≡ row ∷ rows) [
          | true ↦ λ _ found. cc
          | false ↦ λ apart absent. (λ i. there row apart i ∷ unchanged rows absent i)
        ] refl none_

    below_unchanged : (rows : List (ℕ × A)) → AllByRecursion (λ k. nat_cmp id k ≡ Less) (keys_of rows) → map f rows ≡ rows
    below_unchanged [] below = refl
    below_unchanged (row ∷ rows) below = λ i. there row (sym (unsigned_tied id row.0) ∙ ap is_eq below.0) i ∷ below_unchanged rows below.1 i

    pub changed_at : (rows : List (ℕ × A)) (old new : A) → IsInOrder rows → at_id id rows ≡ Some old → new ≡ change old → set_value (is_at (nat_cmp id)) rows new ≡ map f rows
    changed_at [] old new ordered is change_ = cc
    changed_at (row ∷ rows) old new ordered is change_ =
        ap (λ b. if b then (row.0, new) ∷ rows else row ∷ set_value (is_at (nat_cmp id)) rows new) (unsigned_tied id row.0)
        ∙ elim (id == row.0) as (λ b. (id == row.0) ≡ b → (if b then Some row.1 else at_id id rows) ≡ Some old → (if b then (row.0, new) ∷ rows else row ∷ set_value (is_at (nat_cmp id)) rows new) ≡ map f (row ∷ rows)) [
          | true ↦ λ at_ found.
              let below = subst (λ n. AllByRecursion (λ k. nat_cmp n k ≡ Less) (keys_of rows)) (sym (eqb-true id row.0 at_)) (sorted_head nat_cmp row.0 (keys_of rows) ordered) in
              let same_ : row.1 ≡ old = cc in
              let first : (row.0, new) ≡ f row = ap (λ a. (row.0, a)) (change_ ∙ ap change (sym same_)) ∙ sym (here row at_) in
              λ i. first i ∷ sym (below_unchanged rows below) i
          | false ↦ λ apart found. λ i. sym (there row apart) i ∷ changed_at rows old new (sorted_tail nat_cmp row.0 (keys_of rows) ordered) found change_ i
        ] refl is
