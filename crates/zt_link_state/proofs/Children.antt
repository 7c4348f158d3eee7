-- Entries in order: those of a source stand side by side.
use Rattle.std.proofs.Common.{◌≡◌, ℕ, zero, suc, ◌+◌, ◌-◌, ◌<◌, ◌≤◌, ◌==◌, ◌&&◌, ◌||◌, Bool, true, false, List, [], ◌∷◌, length, get_or, take, drop, nat_le, nat_lt, refl, subst, sym, ap, arith, ◌∙◌}
use Rattle.std.proofs.Common.{Result, Ok, Err, add-one, ap₂, is_ok, ⊎_elim}
use Rattle.std.proofs.Math.Seq.{take-length}
use Rattle.std.proofs.lemmas.Bool.{and_parts, cases_lt}
use Rattle.std.proofs.lemmas.Bool.Decides.{nat_tests}
use Rattle.std.proofs.lemmas.List.{get_or-drop, length-drop}
use Rattle.std.proofs.lemmas.List.Folds.{list_any_at, list_any_none}
use Rattle.std.proofs.lemmas.List.Kept.{IsStrictlySortedBy-dedup}
use Rattle.std.proofs.lemmas.List.Sorted.{list_any-IsPermutation, ranks_by, searchable_from_sorted, sorted_far}
use Rattle.std.specs.Cmp.{IsTotalOrder, nat_cmp_is, on_total, then_total}
use Rattle.std.specs.List.{dedup, dedup_from, list_any}
use Rattle.std.specs.List.Sorted.{IsBinarySearchResult, IsNonDecreasingBy, IsPartitionPoint, IsPermutation, IsSearchInRange, IsSorted, IsStrictlySortedBy}
use Rattle.std.specs.Ordering.{is_eq, is_lt, nat_cmp, ordering_reverse, ordering_then}
use Rattle.std.specs.declared.cmp.Ordering.{Ordering}
use Rattle.std.specs.declared.cmp.Ordering.TheVariants.{Less, Equal, Greater}
use Rattle.zt_region.specs.declared.region.Zid.{Zid}
use Rattle.zt_region.specs.Region.{zid_cmp, zid_cmp_total, zid_eq, zid_eq-same}
use Rattle.zt_keys.specs.Test.{by_test}
use Rattle.zt_link_state.specs.KeysOf.{child_cmp}
use Rattle.zt_link_state.specs.Lookups.{AreBySource, HaveChildrenOf, number_of_source}
use Rattle.zt_link_state.proofs.Clashes.{both_are, nat_is}

abbrev Entries : Type 0
Entries = List (Zid × Zid)

-- whether an entry is of a source and a router
abbrev is_of : Zid → Zid → Zid × Zid → Bool
is_of source router c = zid_eq source c.0 && zid_eq router c.1

-- ---- entries in order

child_total : IsTotalOrder child_cmp
child_total = then_total (on_total (λ c. c.0) zid_cmp_total) (on_total (λ c. c.1) zid_cmp_total)

-- a greater number makes a pair greater
greater_first : (a b : ℕ) (rest : Ordering) → is_lt (ordering_then (nat_cmp b a) rest) ≡ false → a ≤ b
greater_first a b rest up = by_test (nat_lt b a) (λ less. absurd (lower (nat_cmp b a) (sym (nat_cmp_is b a Less (is_less b a less))) up)) (is_most a b)
  where
    is_less : (x y : ℕ) → nat_lt x y ≡ true → x < y
    is_less x y h = grind (arith, nat_tests)

    is_most : (x y : ℕ) → nat_lt y x ≡ false → x ≤ y
    is_most x y h = grind (arith, nat_tests)

    lower : (o : Ordering) → o ≡ Less → is_lt (ordering_then o rest) ≡ false → ⊥
    lower Less is up = cc
    lower Equal is up = cc
    lower Greater is up = cc

pub sources_rise : (xs : Entries) → IsSorted child_cmp xs → IsNonDecreasingBy number_of_source xs
sources_rise xs sorted i j d le lt =
    greater_first (get_or xs i d).0.0 (get_or xs j d).0.0 (zid_cmp (get_or xs j d).1 (get_or xs i d).1) (sorted_far _ (ranks_by child_total (λ x. x)) xs sorted i j d le lt)

-- each before the next, so none is less than the one before it
strict_at : (xs : Entries) → IsStrictlySortedBy child_cmp xs → (k : ℕ) (d : Zid × Zid) → suc k < length xs → child_cmp (get_or xs k d) (get_or xs (suc k) d) ≡ Less
unfolding IsStrictlySortedBy
strict_at [] sorted k d lt = absurd (omega arith)
strict_at (x ∷ []) sorted k d lt = absurd (omega arith)
strict_at (x ∷ y ∷ xs) sorted zero d lt = sorted.0.0
strict_at (x ∷ y ∷ xs) sorted (suc k) d lt = strict_at (y ∷ xs) sorted.1 k d (omega arith)

sorted_from_strict : (xs : Entries) → IsStrictlySortedBy child_cmp xs → IsSorted child_cmp xs
sorted_from_strict xs sorted k d z lt =
    rw add-one
    (ap is_lt (child_total.antisymm (get_or xs (suc k) d) (get_or xs k d))
    ∙ ap (λ o. is_lt (ordering_reverse o)) (strict_at xs sorted k d (omega arith)))

is_pair : (source router : Zid) (k : Zid × Zid) → is_of source router k ≡ is_eq (child_cmp (source, router) k)
is_pair source router k =
    sym (both_are (zid_cmp source k.0) (zid_cmp router k.1)
    ∙ ap (λ b. b && is_eq (zid_cmp router k.1)) (nat_is source.0 k.0.0)
    ∙ ap (λ b. zid_eq source k.0 && b) (nat_is router.0 k.1.0))

-- ---- entries that stand there more than once

or_twice : (a b c : Bool) → b ≡ a → (a || c) ≡ (a || (b || c))
or_twice true b c h = refl
or_twice false true c h = cc
or_twice false false c h = refl

module _ {A : Type 0} (same : A → A → Bool) (test : A → Bool) (alike : (x y : A) → same x y ≡ true → test x ≡ test y) where
  any-dedup_from : (k : A) (xs : List A) → list_any test (dedup_from same k xs) ≡ (test k || list_any test xs)
  any-dedup_from k [] = refl
  any-dedup_from k (x ∷ xs) =
      by_test (same x k)
      (λ t. rw t (any-dedup_from k xs ∙ or_twice (test k) (test x) (list_any test xs) (alike x k t)))
      (λ t. rw t (ap (λ b. test k || b) (any-dedup_from x xs)))

  any-dedup : (xs : List A) → list_any test (dedup same xs) ≡ list_any test xs
  any-dedup [] = refl
  any-dedup (x ∷ xs) = any-dedup_from x xs

abbrev pair_eq : Zid × Zid → Zid × Zid → Bool
pair_eq a b = zid_eq a.0 b.0 && zid_eq a.1 b.1

same-pair : (a b : Zid × Zid) → pair_eq a b ≡ true → a ≡ b
same-pair a b h = ap₂ (λ x y. (x, y)) (zid_eq-same a.0 b.0 (and_parts _ _ h).0) (zid_eq-same a.1 b.1 (and_parts _ _ h).1)

-- entries put in order, each once
pub once_by_source : (children sorted : Entries) → IsPermutation children sorted → IsSorted child_cmp sorted → AreBySource (dedup pair_eq sorted) children
once_by_source children sorted permuted rises = record {
  ordered = sorted_from_strict (dedup pair_eq sorted) (IsStrictlySortedBy-dedup child_total (λ x y. is_pair x.0 x.1 y) sorted rises);
  at = λ source router.
      any-dedup pair_eq (is_of source router) (λ x y h. ap (is_of source router) (same-pair x y h)) sorted
      ∙ sym (list_any-IsPermutation (is_of source router) children sorted permuted);
}

-- a search by halves finds a pair where it is among entries in order
pub pair_found : (source router : Zid) (xs : Entries) (r : Result ℕ ℕ) → IsSorted child_cmp xs → IsSearchInRange r (length xs)
    → IsBinarySearchResult (λ y. child_cmp y (source, router)) xs r → is_ok r ≡ list_any (is_of source router) xs
pair_found source router xs (Ok i) sorted within found =
    let d : Zid × Zid = (source, router) in
    sym (list_any_at (is_of source router) xs i d within (is_pair source router (get_or xs i d) ∙ turned (child_total.antisymm d (get_or xs i d)) (found d)))
  where
    turned : {o p : Ordering} → o ≡ ordering_reverse p → p ≡ Equal → is_eq o ≡ true
    turned is equal = cc
pair_found source router xs (Err i) sorted within found =
    let q : Zid × Zid = (source, router) in
    let parts = found (searchable_from_sorted child_total (λ y. y) xs q sorted) in
    sym (list_any_none (is_of source router) xs (λ k d lt.
    is_pair source router (get_or xs k d)
    ∙ ⊎_elim
    (λ below. other (child_total.antisymm q (get_or xs k d)) (parts.0 k d (omega arith) below))
    (λ above. other_greater (child_total.antisymm q (get_or xs k d)) (parts.1 k d above lt))
    (cases_lt k i)))
  where
    other : {o p : Ordering} → o ≡ ordering_reverse p → p ≡ Less → is_eq o ≡ false
    other is less = cc

    other_greater : {o p : Ordering} → o ≡ ordering_reverse p → p ≡ Greater → is_eq o ≡ false
    other_greater is greater = cc

-- ---- entries of one source

module _ (source router : Zid) where
  -- entries before those of the source
  none_before : (n : ℕ) (xs : Entries) → n ≤ length xs → ((k : ℕ) (d : Zid × Zid) → k < n → nat_lt (number_of_source (get_or xs k d)) source.0 ≡ true)
      → list_any (is_of source router) (drop n xs) ≡ list_any (is_of source router) xs
  none_before zero xs le below = refl
  none_before (suc n) [] le below = absurd (omega arith)
  none_before (suc n) (x ∷ xs) le below =
      let first : zid_eq source x.0 ≡ false = apart source.0 x.0.0 (below 0 x (omega arith)) in
      none_before n xs (omega arith) (λ k d lt. below (suc k) d (omega arith)) ∙ sym (rw first refl)
    where
      apart : (a b : ℕ) → nat_lt b a ≡ true → (a == b) ≡ false
      apart a b h = grind (arith, nat_tests)

  -- entries behind them
  none_behind : (xs : Entries) → ((k : ℕ) (d : Zid × Zid) → k < length xs → nat_le (number_of_source (get_or xs k d)) source.0 ≡ false)
      → list_any (is_of source router) xs ≡ false
  none_behind [] above = refl
  none_behind (x ∷ xs) above =
      let first : zid_eq source x.0 ≡ false = apart source.0 x.0.0 (above 0 x (omega arith)) in
      rw first (none_behind xs (λ k d lt. above (suc k) d (omega arith)))
    where
      apart : (a b : ℕ) → nat_le b a ≡ false → (a == b) ≡ false
      apart a b h = grind (arith, nat_tests)

  -- entries that are no less than the source's, up to those that are more
  all_within : (n : ℕ) (xs : Entries) → n ≤ length xs
      → ((k : ℕ) (d : Zid × Zid) → k < length xs → nat_lt (number_of_source (get_or xs k d)) source.0 ≡ false)
      → ((k : ℕ) (d : Zid × Zid) → k < n → nat_le (number_of_source (get_or xs k d)) source.0 ≡ true)
      → ((k : ℕ) (d : Zid × Zid) → n ≤ k → k < length xs → nat_le (number_of_source (get_or xs k d)) source.0 ≡ false)
      → list_any (λ c. zid_eq router c.1) (take n xs) ≡ list_any (is_of source router) xs
  all_within zero xs le from upto beyond = sym (none_behind xs (λ k d lt. beyond k d (omega arith) lt))
  all_within (suc n) [] le from upto beyond = absurd (omega arith)
  all_within (suc n) (x ∷ xs) le from upto beyond =
      let first : zid_eq source x.0 ≡ true = alike source.0 x.0.0 (from 0 x (omega arith)) (upto 0 x (omega arith)) in
      rw first (ap (λ b. zid_eq router x.1 || b)
      (all_within n xs (omega arith) (λ k d lt. from (suc k) d (omega arith)) (λ k d lt. upto (suc k) d (omega arith)) (λ k d ge lt. beyond (suc k) d (omega arith) (omega arith))))
    where
      alike : (a b : ℕ) → nat_lt b a ≡ false → nat_le b a ≡ true → (a == b) ≡ true
      alike a b above below = grind (arith, nat_tests)

-- of what is left from the first that isn't less than the source's on, up to the first that is more
pub side_by_side : (source : Zid) (pairs : Entries) (first count : ℕ)
    → IsPartitionPoint (λ c. nat_lt (number_of_source c) source.0 ≡ true) (λ c. nat_lt (number_of_source c) source.0 ≡ false) pairs first → first ≤ length pairs
    → IsPartitionPoint (λ c. nat_le (number_of_source c) source.0 ≡ true) (λ c. nat_le (number_of_source c) source.0 ≡ false) (drop first pairs) count → count ≤ length (drop first pairs)
    → HaveChildrenOf source (take count (drop first pairs)) pairs
side_by_side source pairs first count below le upto within = record {
  at = λ router.
      all_within source router count (drop first pairs) within
      (λ k d lt. subst (λ c. nat_lt (number_of_source c) source.0 ≡ false) (sym (get_or-drop first pairs k d)) (below.1 (first + k) d (omega arith) (omega (arith, length-drop first pairs, lt))))
      (λ k d lt. upto.0 k d (omega arith) lt)
      (λ k d ge lt. upto.1 k d ge lt)
      ∙ none_before source router first pairs le (λ k d lt. below.0 k d (omega arith) lt);
}

-- a slice from a place to the end
pub rest_is : (first : ℕ) (pairs : Entries) → take (length pairs - first) (drop first pairs) ≡ drop first pairs
rest_is first pairs = subst (λ n. take n (drop first pairs) ≡ drop first pairs) (length-drop first pairs) (take-length (drop first pairs))
