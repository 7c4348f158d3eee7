-- Keys that are put in order, each once.
use Rattle.std.proofs.Common.{◌≡◌, Bool, true, false, ◌||◌, List, [], ◌∷◌, refl, ap, sym, ◌∙◌}
use Rattle.std.proofs.lemmas.List.Sorted.{list_any-IsPermutation}
use Rattle.std.specs.BTreeMap.{is_at}
use Rattle.std.specs.List.{dedup, dedup_from, list_any}
use Rattle.std.specs.List.Sorted.{IsPermutation}
use Rattle.std.specs.Ordering.{is_eq}
use Rattle.std.specs.declared.cmp.Ordering.{Ordering}
use Rattle.std.specs.declared.cmp.Ordering.TheVariants.{Equal}
use Rattle.zt_keys.specs.Test.{by_test}
use Rattle.zt_indexes.specs.Grouped.{equal-from, is_in}

or_twice : (a b c : Bool) → b ≡ a → (a || c) ≡ (a || (b || c))
or_twice true b c h = refl
or_twice false true c h = cc
or_twice false false c h = refl

module _ {A : Type 0} (same : A → A → Bool) (test : A → Bool) (alike : (x y : A) → same x y ≡ true → test x ≡ test y) where
  any-dedup_from : (k : A) (xs : List A) → list_any test (dedup_from same k xs) ≡ (test k || list_any test xs)
  any-dedup_from k [] = refl
  any-dedup_from k (x ∷ xs) =
      by_test (same x k)
      (λ t. rw t (any-dedup_from k xs ∙ or_twice (test k) (test x) (list_any test xs) (alike x k t)))
      (λ t. rw t (ap (λ b. test k || b) (any-dedup_from x xs)))

  any-dedup : (xs : List A) → list_any test (dedup same xs) ≡ list_any test xs
  any-dedup [] = refl
  any-dedup (x ∷ xs) = any-dedup_from x xs

-- in order and without repeats the keys are the same
pub in-order : {K : Type 0} (cmp : K → K → Ordering) → ((a b : K) → cmp a b ≡ Equal → a ≡ b) → (eq : K → K → Bool) → ((a b : K) → eq a b ≡ is_eq (cmp a b))
    → (q : K) (old sorted : List K) → IsPermutation old sorted → is_in cmp q (dedup eq sorted) ≡ is_in cmp q old
in-order cmp one eq ties q old sorted moved =
    any-dedup eq (is_at (cmp q)) (λ x y t. ap (λ k. is_at (cmp q) k) (one x y (equal-from _ (sym (ties x y) ∙ t)))) sorted
    ∙ sym (list_any-IsPermutation (is_at (cmp q)) old sorted moved)
