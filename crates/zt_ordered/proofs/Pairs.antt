-- What is found among rows that stand under numbers, each seen as a pair.
use Rattle.std.specs.Prelude.{◌≡◌, ℕ, ◌<◌, ◌≤◌, true, List, [], ◌∷◌, length, map, Some, Result, Ok, Err}
use Rattle.std.specs.declared.cmp.Ordering.{Ordering}
use Rattle.std.specs.declared.cmp.Ordering.TheVariants.{Less, Equal}
use Rattle.std.specs.Cmp.{nat_cmp_total}
use Rattle.std.specs.FinMap.Entries.{is_sorted}
use Rattle.std.specs.List.Sorted.{IsBinarySearchResult, IsSearchInRange}
use Rattle.std.specs.Option.{option_map}
use Rattle.std.specs.Ordering.{nat_cmp, ordering_index}
use Rattle.std.proofs.Common.{◌-◌, ap, sym, subst, ◌∙◌, arith, get_or, slice_get}
use Rattle.std.proofs.lemmas.List.{get_or-map, length-map}
use Rattle.std.proofs.lemmas.Option.{slice_get-map}
use Rattle.zt_ordered.specs.Placing.{behind-last, place-behind, place-known, place-searched}
use Rattle.zt_ordered.specs.Rows.{place}

module _ {R X : Type 0} (pair : R → ℕ × X) where
  -- a row at a place, and its pair there
  read : (rows : List R) (i : ℕ) (d : ℕ × X) → i < length rows → (e : R) × (get_or (map pair rows) i d ≡ pair (get_or rows i e))
  read [] i d within = absurd (omega (arith, within))
  read (row ∷ rows) i d within = (row, get_or-map pair (row ∷ rows) i row d within)

  -- a search by halves finds the pair where it finds the row
  searched-pairs : (ord : ℕ × X → Ordering) (rows : List R) (r : Result ℕ ℕ) → IsSearchInRange r (length rows) → IsBinarySearchResult (λ row. ord (pair row)) rows r → IsBinarySearchResult ord (map pair rows) r
  searched-pairs ord rows (Ok i) bound at = λ d. let found = read rows i d bound in ap ord found.1 ∙ at found.0
  searched-pairs ord rows (Err i) bound at = λ rising.
      let parted = at (λ a b d below within. let long = length-map rows pair in
      let low = get_or-map pair rows a d (pair d) (omega (arith, below, within)) in
      let high = get_or-map pair rows b d (pair d) within in
      subst (λ p. ordering_index (ord p) ≤ ordering_index (ord (pair (get_or rows b d)))) low
      (subst (λ p. ordering_index (ord (get_or (map pair rows) a (pair d))) ≤ ordering_index (ord p)) high
      (rising a b (pair d) below (omega (arith, within, long))))) in
      let long = length-map rows pair in (
        λ k d low high. let found = read rows k d (omega (arith, high, bound)) in ap ord found.1 ∙ parted.0 k found.0 low high,
        λ k d low high. let found = read rows k d (omega (arith, high, long)) in ap ord found.1 ∙ parted.1 k found.0 low (omega (arith, high, long)),
      )

  module _ (number : ℕ) (rows : List R) (pairs : List (ℕ × X)) (are : pairs ≡ map pair rows) (sorted : is_sorted nat_cmp pairs ≡ true) where
    mapped-sorted : is_sorted nat_cmp (map pair rows) ≡ true
    mapped-sorted = subst (λ ps. is_sorted nat_cmp ps ≡ true) are sorted

    -- where a search by halves ends
    pub place-halves : (r : Result ℕ ℕ) → IsSearchInRange r (length rows) → IsBinarySearchResult (λ row. nat_cmp (pair row).0 number) rows r → r ≡ place nat_cmp number pairs
    place-halves r bound at =
        place-searched nat_cmp nat_cmp_total number (map pair rows) r mapped-sorted (subst (IsSearchInRange r) (sym (length-map rows pair)) bound)
        (searched-pairs (λ e. nat_cmp e.0 number) rows r bound at) ∙ ap (place nat_cmp number) (sym are)

    -- a place that is known to be that of the number
    pub place-stands : (i : ℕ) (row : R) → i < length rows → row ≡ get_or rows i row → nat_cmp (pair row).0 number ≡ Equal → place nat_cmp number pairs ≡ Ok i
    place-stands i row within is tied =
        ap (place nat_cmp number) are
        ∙ place-known nat_cmp nat_cmp_total number (map pair rows) i (pair row) mapped-sorted (subst (λ n. i < n) (sym (length-map rows pair)) within)
        (ap pair is ∙ sym (get_or-map pair rows i row (pair row) within)) tied

    -- a number behind that of the last row
    pub place-after : (last : R) → slice_get rows (length rows - 1) ≡ Some last → nat_cmp (pair last).0 number ≡ Less → place nat_cmp number pairs ≡ Err (length rows)
    place-after last is less =
        let long = length-map rows pair in
        let read_last : slice_get (map pair rows) (length (map pair rows) - 1) ≡ Some (pair last) =
        ap (λ n. slice_get (map pair rows) (n - 1)) long ∙ slice_get-map pair rows (length rows - 1) ∙ ap (option_map pair) is in
        ap (place nat_cmp number) are
        ∙ place-behind nat_cmp nat_cmp_total number (map pair rows) (behind-last nat_cmp nat_cmp_total number (map pair rows) (pair last) mapped-sorted read_last less)
        ∙ ap (λ n. Err n) long
