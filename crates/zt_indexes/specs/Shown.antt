-- The keys that counts show.
--     shown-sorted     they are in order where the counts are
--     shown-apart      no two of them are alike where no two keys of the counts are
--     among-apart      then a key is among them exactly if its counts show it
--     among-shown      so it is where the counts are in order
use Rattle.std.specs.Prelude.{◌≡◌, ℕ, Bool, false, List, [], ◌∷◌, refl}
use Rattle.std.proofs.Common.{ap, ◌∙◌}
use Rattle.std.proofs.lemmas.Map.Keys.{IsDistinct-from_sorted}
use Rattle.std.specs.BTreeMap.{is_at}
use Rattle.std.specs.Cmp.{IsTotalOrder}
use Rattle.std.specs.List.{AllByRecursion, IsDistinct}
use Rattle.std.specs.List.Sorted.{IsStrictlySortedBy}
use Rattle.std.specs.Map.{keys_of}
use Rattle.std.specs.Ordering.{eq_by_cmp, is_eq}
use Rattle.std.specs.declared.cmp.Ordering.{Ordering}
use Rattle.std.specs.declared.cmp.Ordering.TheVariants.{Less, Equal}
use Rattle.zt_keys.specs.Test.{by_test}
use Rattle.zt_region.specs.declared.region.Region.{Region}
use Rattle.zt_indexes.specs.Counted.{is_shown_in}
use Rattle.zt_indexes.specs.Grouped.{equal-from, is_in}
use Rattle.zt_indexes.specs.Live.{counts_at, shown_keys}

module _ {K : Type 0} (cmp : K → K → Ordering) (o : IsTotalOrder cmp) (shown : Region → Bool) where
  all-shown : (P : K → Type 0) (counts : List (K × List (Region × ℕ))) → AllByRecursion P (keys_of counts) → AllByRecursion P (shown_keys shown counts)
  all-shown P [] h = tt
  all-shown P (e ∷ es) h = by_test (is_shown_in shown e.1) (λ t. rw t (h.0, all-shown P es h.1)) (λ t. rw t (all-shown P es h.1))

  pub shown-sorted : (counts : List (K × List (Region × ℕ))) → IsStrictlySortedBy cmp (keys_of counts) → IsStrictlySortedBy cmp (shown_keys shown counts)
  unfolding IsStrictlySortedBy
  shown-sorted [] h = tt
  shown-sorted (e ∷ es) h =
      by_test (is_shown_in shown e.1)
      (λ t. rw t (all-shown (λ y. cmp e.0 y ≡ Less) es h.0, shown-sorted es h.1))
      (λ t. rw t (shown-sorted es h.1))

  pub shown-apart : (counts : List (K × List (Region × ℕ))) → IsDistinct (eq_by_cmp cmp) (keys_of counts) → IsDistinct (eq_by_cmp cmp) (shown_keys shown counts)
  unfolding IsDistinct
  shown-apart [] h = tt
  shown-apart (e ∷ es) h =
      by_test (is_shown_in shown e.1)
      (λ t. rw t (all-shown (λ y. eq_by_cmp cmp e.0 y ≡ false) es h.0, shown-apart es h.1))
      (λ t. rw t (shown-apart es h.1))

  -- what ties with a key is none of those that don't
  none-tied : (q k : K) (keys : List K) → cmp q k ≡ Equal → AllByRecursion (λ y. eq_by_cmp cmp k y ≡ false) keys → is_in cmp q keys ≡ false
  none-tied q k [] tie h = refl
  none-tied q k (x ∷ xs) tie h =
      let apart : is_at (cmp q) x ≡ false = ap is_eq (o.congr q k x tie) ∙ h.0 in
      rw apart (none-tied q k xs tie h.1)

  pub among-apart : (q : K) (counts : List (K × List (Region × ℕ))) → IsDistinct (eq_by_cmp cmp) (keys_of counts) → is_in cmp q (shown_keys shown counts) ≡ is_shown_in shown (counts_at cmp q counts)
  unfolding IsDistinct
  among-apart q [] h = refl
  among-apart q (e ∷ es) h =
      by_test (is_at (cmp q) e.0)
      (λ t.
      let none = none-tied q e.0 (shown_keys shown es) (equal-from _ t) (all-shown (λ y. eq_by_cmp cmp e.0 y ≡ false) es h.0) in
      by_test (is_shown_in shown e.1) (λ u. rw (u, t, u) refl) (λ u. rw (u, t, u) none))
      (λ t.
      let rest = among-apart q es h.1 in
      by_test (is_shown_in shown e.1) (λ u. rw (u, t) rest) (λ u. rw (u, t) rest))

  pub among-shown : (q : K) (counts : List (K × List (Region × ℕ))) → IsStrictlySortedBy cmp (keys_of counts) → is_in cmp q (shown_keys shown counts) ≡ is_shown_in shown (counts_at cmp q counts)
  among-shown q counts h = among-apart q counts (IsDistinct-from_sorted cmp (keys_of counts) h)
