-- Pairs of regions in order, each once, and a search among them.
use Rattle.std.proofs.Common.{◌≡◌, ℕ, zero, suc, ◌<◌, ◌&&◌, ◌||◌, Bool, true, false, List, [], ◌∷◌, length, get_or, nat_eq, refl, subst, sym, ap, arith, ◌∙◌}
use Rattle.std.proofs.Common.{Result, add-one, ap₂, is_ok}
use Rattle.std.proofs.lemmas.Bool.{and_parts, false≢true}
use Rattle.std.proofs.lemmas.List.Kept.{IsStrictlySortedBy-dedup}
use Rattle.std.proofs.lemmas.List.Sorted.{list_any-IsPermutation}
use Rattle.std.specs.Cmp.{IsTotalOrder, on_total, then_total}
use Rattle.std.specs.List.{dedup, dedup_from, list_any}
use Rattle.std.specs.List.Sorted.{IsBinarySearchResult, IsPermutation, IsSearchInRange, IsSorted, IsStrictlySortedBy}
use Rattle.std.specs.Ordering.{is_eq, is_lt, ordering_reverse}
use Rattle.std.specs.declared.cmp.Ordering.TheVariants.{Less}
use Rattle.zt_keys.specs.Test.{by_test}
use Rattle.zt_region.specs.Admission.{is_pair}
use Rattle.zt_region.specs.Region.{region_eq, region_eq-refl, region_eq-same, whatami_eq}
use Rattle.zt_region.specs.contracts.region.RegionOrd.TheImpl.{ghosts}
use Rattle.zt_region.specs.contracts.region.RegionOrd.TheImpl.Laws.{total-law}
use Rattle.zt_region.specs.contracts.region.RegionPartialEq.TheImpl.{ghosts as equality}
use Rattle.zt_region.specs.contracts.region.WhatAmIPartialEq.TheImpl.{ghosts as equality_of_modes}
use Rattle.zt_region.specs.declared.region.Region.{Region}
use Rattle.zt_region.specs.declared.region.Region.TheVariants.{North, Local, South}
use Rattle.zt_region.specs.declared.region.WhatAmI.{WhatAmI}
use Rattle.zt_region.specs.declared.region.WhatAmI.TheVariants.{Router, Peer, Client}
use Rattle.zt_lookups.specs.Refused.{ArePairsOf, pair_cmp}
use Rattle.zt_lookups.proofs.Searched.{is_found}
use Rattle.zt_lookups.proofs.RegionOrder.{is_eq-then, region_cmp-order, region_order_eq}

abbrev Pairs : Type 0
Pairs = List (Region × Region)

region_total : IsTotalOrder ghosts.cmp
region_total = total-law

pair_total : IsTotalOrder pair_cmp
pair_total = then_total (on_total (λ p. p.0) region_total) (on_total (λ p. p.1) region_total)

pub region_sym : (a b : Region) → region_eq a b ≡ region_eq b a
region_sym a b =
    by_test (region_eq a b)
    (λ t. t ∙ sym (subst (λ r. region_eq b r ≡ true) (sym (region_eq-same a b t)) (region_eq-refl b)))
    (λ f.
    by_test (region_eq b a)
    (λ t. absurd (false≢true (sym f ∙ subst (λ r. region_eq a r ≡ true) (sym (region_eq-same b a t)) (region_eq-refl a))))
    (λ g. f ∙ sym g))

pub region_at : (a b : Region) → is_eq (ghosts.cmp a b) ≡ region_eq b a
region_at a b = ap is_eq (region_cmp-order a b) ∙ region_order_eq a b ∙ region_sym a b

-- a pair is the one that it ties with
pair_at : (src dst : Region) (k : Region × Region) → is_pair src dst k ≡ is_eq (pair_cmp (src, dst) k)
pair_at src dst k =
    sym (is_eq-then (ghosts.cmp src k.0) (ghosts.cmp dst k.1) ∙ ap₂ (λ a b. a && b) (region_at src k.0) (region_at dst k.1))

-- each before the next, so none is less than the one before it
strict_at : (xs : Pairs) → IsStrictlySortedBy pair_cmp xs → (k : ℕ) (d : Region × Region) → suc k < length xs → pair_cmp (get_or xs k d) (get_or xs (suc k) d) ≡ Less
unfolding IsStrictlySortedBy
strict_at [] sorted k d lt = absurd (omega arith)
strict_at (x ∷ []) sorted k d lt = absurd (omega arith)
strict_at (x ∷ y ∷ xs) sorted zero d lt = sorted.0.0
strict_at (x ∷ y ∷ xs) sorted (suc k) d lt = strict_at (y ∷ xs) sorted.1 k d (omega arith)

sorted_from_strict : (xs : Pairs) → IsStrictlySortedBy pair_cmp xs → IsSorted pair_cmp xs
sorted_from_strict xs sorted k d z lt =
    rw add-one
    (ap is_lt (pair_total.antisymm (get_or xs (suc k) d) (get_or xs k d))
    ∙ ap (λ o. is_lt (ordering_reverse o)) (strict_at xs sorted k d (omega arith)))

-- ---- pairs that stand there more than once

or_twice : (a b c : Bool) → b ≡ a → (a || c) ≡ (a || (b || c))
or_twice true b c h = refl
or_twice false true c h = cc
or_twice false false c h = refl

module _ {A : Type 0} (same : A → A → Bool) (test : A → Bool) (alike : (x y : A) → same x y ≡ true → test x ≡ test y) where
  any-dedup_from : (k : A) (xs : List A) → list_any test (dedup_from same k xs) ≡ (test k || list_any test xs)
  any-dedup_from k [] = refl
  any-dedup_from k (x ∷ xs) =
      by_test (same x k)
      (λ t. rw t (any-dedup_from k xs ∙ or_twice (test k) (test x) (list_any test xs) (alike x k t)))
      (λ t. rw t (ap (λ b. test k || b) (any-dedup_from x xs)))

  any-dedup : (xs : List A) → list_any test (dedup same xs) ≡ list_any test xs
  any-dedup [] = refl
  any-dedup (x ∷ xs) = any-dedup_from x xs

abbrev pair_eq : Region × Region → Region × Region → Bool
pair_eq a b = equality.eq a.0 b.0 && equality.eq a.1 b.1

-- regions are equal as the definitions say
equal_is : (a b : Region) → equality.eq a b ≡ region_eq a b
equal_is North North = refl
equal_is North Local = refl
equal_is North (South j n) = refl
equal_is Local North = refl
equal_is Local Local = refl
equal_is Local (South j n) = refl
equal_is (South i m) North = refl
equal_is (South i m) Local = refl
equal_is (South i m) (South j n) = ap (λ b. nat_eq i j && b) (modes m n)
  where
    modes : (m n : WhatAmI) → equality_of_modes.eq m n ≡ whatami_eq m n
    modes Router Router = refl
    modes Router Peer = refl
    modes Router Client = refl
    modes Peer Router = refl
    modes Peer Peer = refl
    modes Peer Client = refl
    modes Client Router = refl
    modes Client Peer = refl
    modes Client Client = refl

same-pair : (a b : Region × Region) → pair_eq a b ≡ true → a ≡ b
same-pair a b h =
    let both = and_parts _ _ h in
    ap₂ (λ x y. (x, y)) (region_eq-same a.0 b.0 (sym (equal_is a.0 b.0) ∙ both.0)) (region_eq-same a.1 b.1 (sym (equal_is a.1 b.1) ∙ both.1))

pair_ties : (a b : Region × Region) → pair_eq a b ≡ is_eq (pair_cmp a b)
pair_ties a b =
    ap₂ (λ s t. s && t) (equal_is a.0 b.0 ∙ region_sym a.0 b.0) (equal_is a.1 b.1 ∙ region_sym a.1 b.1) ∙ pair_at a.0 a.1 b

-- pairs put in order, each once
pub pairs_once : (listed sorted : Pairs) → IsPermutation listed sorted → IsSorted pair_cmp sorted → ArePairsOf listed (dedup pair_eq sorted)
pairs_once listed sorted permuted rises = record {
  in_order = sorted_from_strict (dedup pair_eq sorted) (IsStrictlySortedBy-dedup pair_total pair_ties sorted rises);
  at = λ src dst.
      any-dedup pair_eq (is_pair src dst) (λ x y h. ap (is_pair src dst) (same-pair x y h)) sorted
      ∙ sym (list_any-IsPermutation (is_pair src dst) listed sorted permuted);
}

-- a search by halves finds a pair where it is among pairs in order
pub pair_found : (src dst : Region) (xs : Pairs) (r : Result ℕ ℕ) → IsSorted pair_cmp xs → IsSearchInRange r (length xs)
    → IsBinarySearchResult (λ y. pair_cmp y (src, dst)) xs r → is_ok r ≡ list_any (is_pair src dst) xs
pair_found src dst = is_found pair_cmp pair_total (is_pair src dst) (src, dst) (pair_at src dst)
