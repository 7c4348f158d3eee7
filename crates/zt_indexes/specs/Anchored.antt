-- Groups of keys by their numbers, where there are any.
--     AreGroupsOf cmp anchored groups entries     groups at the first part and at the last, where they are there, are those of
--                                                 the entries
use Rattle.std.specs.Prelude.{ℕ, List, Option, Some, None}
use Rattle.std.specs.declared.cmp.Ordering.{Ordering}
use Rattle.zt_keys.specs.declared.anchor.Anchor.{Anchor}
use Rattle.zt_indexes.specs.Grouped.{AreGrouped}

module _ {K X : Type 0} (cmp : K → K → Ordering) (anchored : Anchor → K → Option ℕ) where
  abbrev pub AreGroupsOf : Option (List (Option ℕ × List K) × List (Option ℕ × List K)) → List (K × X) → Type 0
  AreGroupsOf None entries = Unit
  AreGroupsOf (Some groups) entries = AreGrouped cmp anchored groups.0 groups.1 entries
