-- Regions in order, and a search among them.
use Rattle.std.proofs.Common.{◌≡◌, ℕ, Bool, List, [], ◌∷◌, filter, length, Result, is_ok, refl, ap, sym, ◌∙◌}
use Rattle.zt_keys.specs.Test.{by_test}
use Rattle.std.proofs.lemmas.List.Sorted.{list_any-IsPermutation}
use Rattle.std.specs.List.{list_any}
use Rattle.std.specs.List.Sorted.{IsBinarySearchResult, IsPermutation, IsSearchInRange, IsSorted}
use Rattle.std.specs.Ordering.{is_eq}
use Rattle.zt_region.specs.Region.{region_eq}
use Rattle.zt_region.specs.contracts.region.RegionOrd.TheImpl.{ghosts}
use Rattle.zt_region.specs.contracts.region.RegionOrd.TheImpl.Laws.{total-law}
use Rattle.zt_region.specs.declared.region.Region.{Region}
use Rattle.zt_lookups.specs.Listed.{AreRegionsOf}
use Rattle.zt_lookups.proofs.Pairs.{region_at, region_sym}
use Rattle.zt_lookups.proofs.Searched.{is_found}

region_is : (q k : Region) → region_eq q k ≡ is_eq (ghosts.cmp q k)
region_is q k = region_sym q k ∙ sym (region_at q k)

pub regions_in_order : (listed sorted : List Region) → IsPermutation listed sorted → IsSorted ghosts.cmp sorted → AreRegionsOf listed sorted
regions_in_order listed sorted permuted rises = record {
  in_order = rises;
  at = λ region. sym (list_any-IsPermutation (region_eq region) listed sorted permuted);
}

pub region_found : (q : Region) (xs : List Region) (r : Result ℕ ℕ) → IsSorted ghosts.cmp xs → IsSearchInRange r (length xs) → IsBinarySearchResult (λ y. ghosts.cmp y q) xs r → is_ok r ≡ list_any (region_eq q) xs
region_found q = is_found ghosts.cmp total-law (region_eq q) q (region_is q)

-- a filter a second time leaves all
pub filter_twice : {A : Type 0} (p : A → Bool) (xs : List A) → filter p (filter p xs) ≡ filter p xs
filter_twice p [] = refl
filter_twice p (x ∷ xs) =
    by_test (p x)
    (λ t. rw t (rw t (ap (λ ys. x ∷ ys) (filter_twice p xs))))
    (λ f. rw f (filter_twice p xs))
