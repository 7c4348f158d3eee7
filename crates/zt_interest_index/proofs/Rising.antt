-- Interests in order of face and id.
use Rattle.std.proofs.Common.{◌≡◌, ◌-◌, ℕ, true, ◌==◌, ◌&&◌, List, [], ◌∷◌, ◌++◌, Option, Some, Ok, Err, filter, length, not, refl, slice_get, sym, ◌∙◌}
use Rattle.std.proofs.lemmas.Cmp.{nat_cmp_total, on_total, then_total}
use Rattle.std.specs.Cmp.{IsTotalOrder, unsigned_tied}
use Rattle.std.specs.FinMap.Entries.{below_all, is_sorted, is_sorted-where_key}
use Rattle.std.specs.List.{AllByRecursion, remove}
use Rattle.std.specs.Ordering.{is_eq, nat_cmp, ordering_then}
use Rattle.std.specs.declared.cmp.Ordering.{Ordering}
use Rattle.std.specs.declared.cmp.Ordering.TheVariants.{Less, Equal, Greater}
use Rattle.zt_interest_index.specs.Holdings.{AreRising, holder_cmp, is_of}
use Rattle.zt_ordered.specs.Found.{sorted-head, sorted-tail}
use Rattle.zt_ordered.specs.Placing.{behind-last, without-gap, without-place}
use Rattle.zt_ordered.specs.Rows.{place, without}
use Rattle.zt_ordered.specs.Test.{T-from, T-to, and_both, and_first, and_second}

holder_total : IsTotalOrder holder_cmp
holder_total = then_total (on_total (λ (p : ℕ × ℕ). p.0) nat_cmp_total) (on_total (λ (p : ℕ × ℕ). p.1) nat_cmp_total)

then_eq : (a b : Ordering) → is_eq (ordering_then a b) ≡ (is_eq a && is_eq b)
then_eq Less b = refl
then_eq Equal b = refl
then_eq Greater b = refl

held_tie : (face id : ℕ) (k : ℕ × ℕ) → is_eq (holder_cmp (face, id) k) ≡ (face == k.0 && id == k.1)
held_tie face id k = then_eq (nat_cmp face k.0) (nat_cmp id k.1) ∙ (λ i. unsigned_tied face k.0 i && unsigned_tied id k.1 i)

module _ {P X : Type 0} (cmp : P → P → Ordering) where
  below-more : (x : P) (row : P × X) (es : List (P × X)) → below_all cmp x es ≡ true → cmp x row.0 ≡ Less → below_all cmp x (es ++ row ∷ []) ≡ true
  below-more x row [] below less = rw less refl
  below-more x row (e ∷ es) below less = and_both _ _ (and_first _ _ below) (below-more x row es (and_second _ _ below) less)

  sorted-more : (row : P × X) (es : List (P × X)) → is_sorted cmp es ≡ true → AllByRecursion (λ (e : P × X). cmp e.0 row.0 ≡ Less) es → is_sorted cmp (es ++ row ∷ []) ≡ true
  sorted-more row [] sorted all = refl
  sorted-more row (e ∷ es) sorted all = and_both _ _ (below-more e.0 row es (sorted-head cmp e es sorted) all.0) (sorted-more row es (sorted-tail cmp e es sorted) all.1)

module _ {K : Type 0} where
  -- ---- an interest more
  pub rising-one : (row : (ℕ × ℕ) × Option K) → AreRising (row ∷ [])
  rising-one row = refl

  pub rising-more : (rows : List ((ℕ × ℕ) × Option K)) (last row : (ℕ × ℕ) × Option K) → slice_get rows (length rows - 1) ≡ Some last → holder_cmp last.0 row.0 ≡ Less → AreRising rows → AreRising (rows ++ row ∷ [])
  rising-more rows last row is above rising = sorted-more holder_cmp row rows rising (behind-last holder_cmp holder_total row.0 rows last rising is above)

  -- ---- interests less
  module _ (face id : ℕ) where
    rest-is : (rows : List ((ℕ × ℕ) × Option K)) → without holder_cmp (face, id) rows ≡ filter (λ row. not (is_of face id row)) rows
    rest-is rows = λ i. filter (λ row. not (held_tie face id row.0 i)) rows

    pub dropped-at : (rows : List ((ℕ × ℕ) × Option K)) (i : ℕ) → AreRising rows → Ok i ≡ place holder_cmp (face, id) rows → remove rows i ≡ filter (λ row. not (is_of face id row)) rows
    dropped-at rows i rising found = sym (without-place holder_cmp holder_total (face, id) rows i rising (sym found)) ∙ rest-is rows

    pub dropped-none : (rows : List ((ℕ × ℕ) × Option K)) (i : ℕ) → AreRising rows → Err i ≡ place holder_cmp (face, id) rows → rows ≡ filter (λ row. not (is_of face id row)) rows
    dropped-none rows i rising gap = sym (without-gap holder_cmp holder_total (face, id) rows i rising (sym gap)) ∙ rest-is rows

    pub rising-kept : (rows : List ((ℕ × ℕ) × Option K)) → AreRising rows → AreRising (filter (λ row. not (is_of face id row)) rows)
    rising-kept rows rising = T-to _ (is_sorted-where_key holder_cmp (λ k. not (face == k.0 && id == k.1)) rows (T-from _ rising))
