-- Entries that are gone over one by one, each key put at its numbers.
use Rattle.std.proofs.Common.{◌≡◌, ℕ, true, false, List, [], ◌∷◌, Option, is_some, ap, refl, ◌∙◌}
use Rattle.std.proofs.lemmas.Bool.{false≢true}
use Rattle.std.specs.BTreeMap.{is_at}
use Rattle.std.specs.Map.{lookup}
use Rattle.std.specs.declared.cmp.Ordering.{Ordering}
use Rattle.std.specs.declared.cmp.Ordering.TheVariants.{Equal}
use Rattle.zt_keys.specs.Test.{by_test}
use Rattle.zt_keys.specs.declared.anchor.Anchor.{Anchor}
use Rattle.zt_keys.specs.declared.anchor.Anchor.TheVariants.{First, Last}
use Rattle.zt_indexes.specs.Grouped.{AreGrouped, Grows, equal-from, is_grouped}

module _ {K X : Type 0} (cmp : K → K → Ordering) where
  -- each key of all entries that isn't among those left stands at its number
  pub record IsGathered (numbered : K → Option ℕ) (all left : List (K × X)) (groups : List (Option ℕ × List K)) : Type 0 where
    pub at : (q : K) → is_some (lookup (is_at (cmp q)) all) ≡ true → is_some (lookup (is_at (cmp q)) left) ≡ false → is_grouped cmp (numbered q) q groups ≡ true

  module _ (numbered : K → Option ℕ) (all : List (K × X)) where
    none-gathered : (groups : List (Option ℕ × List K)) → IsGathered numbered all all groups
    none-gathered groups = record { at = λ q there gone. absurd (false≢true (λ i. both (is_some (lookup (is_at (cmp q)) all)) there gone i)) }
      where
        both : (b : _) → b ≡ true → b ≡ false → false ≡ true
        both b t f = cc

    one-gathered : ((a b : K) → cmp a b ≡ Equal → a ≡ b) → (entry : K × X) (left : List (K × X)) (before after : List (Option ℕ × List K))
        → IsGathered numbered all (entry ∷ left) before → Grows cmp before after → is_grouped cmp (numbered entry.0) entry.0 after ≡ true → IsGathered numbered all left after
    one-gathered one entry left before after gathered grows own = record {
      at = λ q there gone.
          by_test (is_at (cmp q) entry.0)
          (λ t. ap (λ k. is_grouped cmp (numbered k) k after) (one q entry.0 (equal-from _ t)) ∙ own)
          (λ t. grows.at (numbered q) q (gathered.at q there (rw t gone)));
    }

  module _ (anchored : Anchor → K → Option ℕ) (all : List (K × X)) where
    -- so it is at the first part and at the last
    pub record AreGathered (left : List (K × X)) (groups : List (Option ℕ × List K) × List (Option ℕ × List K)) : Type 0 where
      pub first : IsGathered (anchored First) all left groups.0
      pub last : IsGathered (anchored Last) all left groups.1

    pub gathered-none : (groups : List (Option ℕ × List K) × List (Option ℕ × List K)) → AreGathered all groups
    gathered-none groups = record { first = none-gathered (anchored First) all groups.0; last = none-gathered (anchored Last) all groups.1 }

    pub gathered-one : ((a b : K) → cmp a b ≡ Equal → a ≡ b) → (entry : K × X) (left : List (K × X)) (before after : List (Option ℕ × List K) × List (Option ℕ × List K))
        → AreGathered (entry ∷ left) before → Grows cmp before.0 after.0 → Grows cmp before.1 after.1
        → is_grouped cmp (anchored First entry.0) entry.0 after.0 ≡ true → is_grouped cmp (anchored Last entry.0) entry.0 after.1 ≡ true → AreGathered left after
    gathered-one one entry left before after gathered firsts lasts at-first at-last = record {
      first = one-gathered (anchored First) all one entry left before.0 after.0 gathered.first firsts at-first;
      last = one-gathered (anchored Last) all one entry left before.1 after.1 gathered.last lasts at-last;
    }

    pub gathered-all : (groups : List (Option ℕ × List K) × List (Option ℕ × List K)) → AreGathered [] groups → AreGrouped cmp anchored groups.0 groups.1 all
    gathered-all groups gathered = record {
      first = record { at = λ q there. gathered.first.at q there refl };
      last = record { at = λ q there. gathered.last.at q there refl };
    }
