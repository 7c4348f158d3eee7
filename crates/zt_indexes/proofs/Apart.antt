-- Expressions of entries of which no two are alike.
use Rattle.std.proofs.Common.{◌≡◌, ◌+◌, ℕ, Bool, false, ◌&&◌, if◌then◌else◌, List, [], ◌∷◌, ◌++◌, filter, refl, arith}
use Rattle.std.proofs.lemmas.List.{append_assoc}
use Rattle.std.proofs.lemmas.Map.Keys.{IsDistinct-IsPermutation, apart_from_distinct, sorted_from_all_adjacent}
use Rattle.std.specs.Cmp.{IsTotalOrder, eq_by_cmp_equiv}
use Rattle.std.specs.List.{AllByRecursion, IsDistinct, slice_index_or}
use Rattle.std.specs.List.Sorted.{IsPermutation, IsSorted, IsStrictlySortedBy}
use Rattle.std.specs.Ordering.{eq_by_cmp, is_eq, is_lt, ordering_reverse}
use Rattle.std.specs.declared.cmp.Ordering.{Ordering}
use Rattle.std.specs.declared.cmp.Ordering.TheVariants.{Less, Equal, Greater}
use Rattle.zt_keys.specs.Test.{by_test}
use Rattle.zt_region.specs.declared.region.Region.{Region}
use Rattle.zt_indexes.specs.Counted.{is_shown_in}
use Rattle.zt_indexes.specs.Live.{shown_keys}

less-from : (r s : Ordering) → r ≡ ordering_reverse s → is_lt s ≡ false → is_eq r ≡ false → r ≡ Less
less-from Less s h k l = refl
less-from Equal s h k l = cc
less-from Greater Less h k l = cc
less-from Greater Equal h k l = cc
less-from Greater Greater h k l = cc

module _ {K : Type 0} where
  all-kept : (P : K → Type 0) (passes : K → Bool) (keys : List K) → AllByRecursion P keys → AllByRecursion P (filter passes keys)
  all-kept P passes [] h = tt
  all-kept P passes (x ∷ xs) h = by_test (passes x) (λ t. rw t (h.0, all-kept P passes xs h.1)) (λ t. rw t (all-kept P passes xs h.1))

  -- of keys that are apart, some
  pub apart-filter : (eq : K → K → Bool) (passes : K → Bool) (keys : List K) → IsDistinct eq keys → IsDistinct eq (filter passes keys)
  unfolding IsDistinct
  apart-filter eq passes [] h = tt
  apart-filter eq passes (x ∷ xs) h =
      by_test (passes x)
      (λ t. rw t (all-kept (λ y. eq x y ≡ false) passes xs h.0, apart-filter eq passes xs h.1))
      (λ t. rw t (apart-filter eq passes xs h.1))

  module _ (shown : Region → Bool) where
    -- one of the entries later, as many are found
    pub one-shown : (found : List K) (e : K × List (Region × ℕ)) (left : List (K × List (Region × ℕ)))
        → (if is_shown_in shown e.1 then found ++ e.0 ∷ [] else found) ++ shown_keys shown left ≡ found ++ shown_keys shown (e ∷ left)
    one-shown found e left = by_test (is_shown_in shown e.1) (λ t. rw t (append_assoc found (e.0 ∷ []) (shown_keys shown left))) (λ t. rw t refl)

    pub one-matching : (matches : K → Bool) (found : List K) (e : K × List (Region × ℕ)) (left : List (K × List (Region × ℕ)))
        → (if matches e.0 && is_shown_in shown e.1 then found ++ e.0 ∷ [] else found) ++ filter matches (shown_keys shown left) ≡ found ++ filter matches (shown_keys shown (e ∷ left))
    one-matching matches found e left =
        by_test (is_shown_in shown e.1)
        (λ t. by_test (matches e.0) (λ u. rw (t, u) (append_assoc found (e.0 ∷ []) (filter matches (shown_keys shown left)))) (λ u. rw (t, u) refl))
        (λ t. by_test (matches e.0) (λ u. rw (t, u) refl) (λ u. rw (t, u) refl))

module _ {K : Type 0} (cmp : K → K → Ordering) (o : IsTotalOrder cmp) where
  -- sorted keys that are apart
  rise : (keys : List K) → IsSorted cmp keys → IsDistinct (eq_by_cmp cmp) keys → IsStrictlySortedBy cmp keys
  unfolding IsStrictlySortedBy
  rise [] sorted apart = tt
  rise (x ∷ xs) sorted apart =
      sorted_from_all_adjacent o (x ∷ xs) x
      (λ k l.
      let here = slice_index_or (x ∷ xs) k x in
      let next = slice_index_or (x ∷ xs) (k + 1) x in
      less-from (cmp here next) (cmp next here) (o.antisymm here next) (sorted k x (omega arith) l) (apart_from_distinct (eq_by_cmp cmp) (x ∷ xs) k (k + 1) x apart (omega arith) l))

  pub sorted-apart : (old keys : List K) → IsPermutation old keys → IsSorted cmp keys → IsDistinct (eq_by_cmp cmp) old → IsStrictlySortedBy cmp keys
  sorted-apart old keys moved sorted apart = rise keys sorted (IsDistinct-IsPermutation (eq_by_cmp cmp) (eq_by_cmp_equiv o).symm old keys moved apart)
