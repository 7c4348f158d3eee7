-- The interests that a face was sent, found by what they ask for, as they come and go.
use Rattle.std.proofs.Common.{◌≡◌, ℕ, ◌==◌, Bool, true, false, ◌&&◌, ◌||◌, not, if◌then◌else◌, Option, Some, None, List, filter, map, refl, ap, sym, subst, ◌∙◌}
use Rattle.std.proofs.lemmas.Bool.{eqb-true}
use Rattle.std.specs.BTreeMap.{is_at}
use Rattle.std.specs.BTreeSet.{BTreeSet}
use Rattle.std.specs.Cmp.{IsTotalOrder, eq_by_cmp_equiv}
use Rattle.std.specs.FinMap.Entries.{put}
use Rattle.std.specs.List.{list_any}
use Rattle.std.specs.List.Sorted.{IsStrictlySortedBy}
use Rattle.std.specs.Option.{option_eq}
use Rattle.std.specs.Ordering.{is_eq, nat_cmp, ordering_then}
use Rattle.std.specs.declared.cmp.Ordering.{Ordering}
use Rattle.std.specs.declared.cmp.Ordering.TheVariants.{Less, Equal, Greater}
use Rattle.zt_face.specs.Ids.{HasLess, HasMore, HasSame, ids_under, is_under}
use Rattle.zt_face.specs.Locals.{AreFoundIn, Asked, asked_by, asked_eq, asks_for}
use Rattle.zt_rows.specs.ById.{IsInOrder}
use Rattle.zt_rows.proofs.Found.{absent_kept, at_put, at_without, same_ids, some_ordered, turned}
use Rattle.zt_model.specs.Lists.{at_id, is_some_and, without_id}
use Rattle.zt_model.specs.Routing.{expression_order}
use Rattle.zt_model.specs.Rows.{ById, InterestRow}

-- ---- tests

and_true : (a : Bool) → (a && true) ≡ a
and_true true = refl
and_true false = refl

and_false : (a : Bool) → (a && false) ≡ false
and_false true = refl
and_false false = refl

or_false : (a : Bool) → (a || false) ≡ a
or_false true = refl
or_false false = refl

and_not : (a : Bool) → (a && not (a && true)) ≡ false
and_not true = refl
and_not false = refl

both_equal : (a b : Ordering) → is_eq (ordering_then a b) ≡ (is_eq a && is_eq b)
both_equal Less b = refl
both_equal Equal b = refl
both_equal Greater b = refl

-- ---- a test of the row under an id

module _ {A : Type 0} where
  pub test_added : (here : Bool) (old : Option A) (new : A) (p : A → Bool) → (here ≡ true → old ≡ None) → (is_some_and old p || (p new && here)) ≡ is_some_and (if here then Some new else old) p
  test_added true old new p absent = rw (absent refl) (and_true (p new))
  test_added false old new p absent = rw (and_false (p new)) (or_false (is_some_and old p))

  pub test_dropped : (here : Bool) (old : Option A) (gone : A) (p : A → Bool) → (here ≡ true → old ≡ Some gone) → (is_some_and old p && not (p gone && here)) ≡ is_some_and (if here then None else old) p
  test_dropped true old gone p there = rw (there refl) (and_not (p gone))
  test_dropped false old gone p there = rw (and_false (p gone)) (and_true (is_some_and old p))

-- what a look-up found is in its ids
under_is : (found : Option (BTreeSet ℕ)) (n : ℕ) → list_any (is_at (nat_cmp n)) (ids_under found) ≡ is_under found n
under_is None n = refl
under_is (Some ids) n = refl

-- where nothing was found
pub none_rise : (found : Option (BTreeSet ℕ)) → None ≡ found → IsStrictlySortedBy nat_cmp (ids_under found)
unfolding IsStrictlySortedBy
none_rise found is = subst (λ o. IsStrictlySortedBy nat_cmp (ids_under o)) is tt

-- ---- interests by what they ask for

module _ {K : Type 0} (cmp : K → K → Ordering) (matching : K → K → Bool) where
  module _ (before : Asked K → Option (BTreeSet ℕ)) (rows : ById (InterestRow K)) (found : AreFoundIn cmp matching before rows) where
    -- the ids of those that ask for this
    pub found_ids : (ids : List ℕ) (asked : Asked K) → ids ≡ ids_under (before asked) → IsStrictlySortedBy nat_cmp ids → ids ≡ map (λ row. row.0) (filter (λ row. asks_for cmp matching asked row.1) rows)
    found_ids ids asked is rising =
        same_ids ids (asks_for cmp matching asked) rows rising found.ordered (λ n. ap (list_any (is_at (nat_cmp n))) is ∙ under_is (before asked) n ∙ found.at asked n)

    pub found_same : (after : Asked K → Option (BTreeSet ℕ)) → HasSame before after → AreFoundIn cmp matching after rows
    found_same after same = record { ordered = found.ordered; at = λ q n. same.at q n ∙ found.at q n }

    pub found_absent : (id : ℕ) → at_id id rows ≡ None → AreFoundIn cmp matching before (without_id id rows)
    found_absent id absent = subst (AreFoundIn cmp matching before) (sym (absent_kept id rows absent)) found

    module _ (total : IsTotalOrder cmp) {eq : K → K → Bool} (ties : (a b : K) → eq a b ≡ is_eq (cmp a b)) where
      asked_tied : (row : InterestRow K) (q : Asked K) → asked_eq eq (asked_by row) q ≡ asks_for cmp matching q row
      asked_tied row q = (λ i. exprs row.expr q.0 i && turned row.options.0 q.1.0 i) ∙ sym (both_equal (expression_order cmp matching q.0 row.expr) (nat_cmp q.1.0 row.options.0))
        where
          exprs : (a b : Option K) → option_eq eq a b ≡ is_eq (expression_order cmp matching b a)
          exprs None None = refl
          exprs None (Some b) = refl
          exprs (Some a) None = refl
          exprs (Some a) (Some b) = ties a b ∙ (eq_by_cmp_equiv total).symm a b

      -- an interest more
      pub found_added : (after : Asked K → Option (BTreeSet ℕ)) (id : ℕ) (row : InterestRow K) → at_id id rows ≡ None → IsInOrder (put nat_cmp id row rows)
          → HasMore (asked_eq eq) (asked_by row) id before after → AreFoundIn cmp matching after (put nat_cmp id row rows)
      found_added after id row absent ordered more = record {
        ordered = ordered;
        at = λ q n.
            more.at q n
            ∙ (λ i. found.at q n i || (asked_tied row q i && id == n))
            ∙ test_added (id == n) (at_id n rows) row (asks_for cmp matching q) (λ t. ap (λ k. at_id k rows) (sym (eqb-true id n t)) ∙ absent)
            ∙ ap (λ o. is_some_and o (asks_for cmp matching q)) (sym (at_put n id row rows));
      }

      -- an interest less
      pub found_dropped : (after : Asked K → Option (BTreeSet ℕ)) (id : ℕ) (row : InterestRow K) → at_id id rows ≡ Some row
          → HasLess (asked_eq eq) (asked_by row) id before after → AreFoundIn cmp matching after (without_id id rows)
      found_dropped after id row there less = record {
        ordered = some_ordered (λ r. not (id == r.0)) rows found.ordered;
        at = λ q n.
            less.at q n
            ∙ (λ i. found.at q n i && not (asked_tied row q i && id == n))
            ∙ test_dropped (id == n) (at_id n rows) row (asks_for cmp matching q) (λ t. ap (λ k. at_id k rows) (sym (eqb-true id n t)) ∙ there)
            ∙ ap (λ o. is_some_and o (asks_for cmp matching q)) (sym (at_without n id rows));
      }
