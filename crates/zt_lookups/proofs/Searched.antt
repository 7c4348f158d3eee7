-- A search among things in order finds one where it is there.
use Rattle.std.proofs.Common.{◌≡◌, ℕ, Bool, true, false, List, length, get_or, sym, ◌∙◌, arith}
use Rattle.std.proofs.Common.{Result, Ok, Err, is_ok, ⊎_elim}
use Rattle.std.proofs.lemmas.Bool.{cases_lt}
use Rattle.std.proofs.lemmas.List.Folds.{list_any_at, list_any_none}
use Rattle.std.proofs.lemmas.List.Sorted.{searchable_from_sorted}
use Rattle.std.specs.Cmp.{IsTotalOrder}
use Rattle.std.specs.List.{list_any}
use Rattle.std.specs.List.Sorted.{IsBinarySearchResult, IsSearchInRange, IsSorted}
use Rattle.std.specs.Ordering.{is_eq, ordering_reverse}
use Rattle.std.specs.declared.cmp.Ordering.{Ordering}
use Rattle.std.specs.declared.cmp.Ordering.TheVariants.{Less, Equal, Greater}

turned : {o p : Ordering} → o ≡ ordering_reverse p → p ≡ Equal → is_eq o ≡ true
turned is equal = cc

other : {o p : Ordering} → o ≡ ordering_reverse p → p ≡ Less → is_eq o ≡ false
other is less = cc

other_greater : {o p : Ordering} → o ≡ ordering_reverse p → p ≡ Greater → is_eq o ≡ false
other_greater is greater = cc

module _ {A : Type 0} (cmp : A → A → Ordering) (total : IsTotalOrder cmp) (test : A → Bool) (q : A) (at : (k : A) → test k ≡ is_eq (cmp q k)) where
  pub is_found : (xs : List A) (r : Result ℕ ℕ) → IsSorted cmp xs → IsSearchInRange r (length xs) → IsBinarySearchResult (λ y. cmp y q) xs r → is_ok r ≡ list_any test xs
  is_found xs (Ok i) sorted within found = sym (list_any_at test xs i q within (at (get_or xs i q) ∙ turned (total.antisymm q (get_or xs i q)) (found q)))
  is_found xs (Err i) sorted within found =
      let parts = found (searchable_from_sorted total (λ y. y) xs q sorted) in
      sym (list_any_none test xs (λ k d lt.
      at (get_or xs k d)
      ∙ ⊎_elim
      (λ below. other (total.antisymm q (get_or xs k d)) (parts.0 k d (omega arith) below))
      (λ above. other_greater (total.antisymm q (get_or xs k d)) (parts.1 k d above lt))
      (cases_lt k i)))
