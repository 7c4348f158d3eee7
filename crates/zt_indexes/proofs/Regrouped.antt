-- Groups of keys by their numbers while their entries change.
use Rattle.std.specs.Prelude.{ℕ, List, Option, Some, None}
use Rattle.std.specs.declared.cmp.Ordering.{Ordering}
use Rattle.zt_indexes.specs.Anchored.{AreGroupsOf}
use Rattle.zt_indexes.specs.Grouped.{HasSameKeys, grouped-same}
use Rattle.zt_keys.specs.declared.anchor.Anchor.{Anchor}

module _ {K X : Type 0} (cmp : K → K → Ordering) (anchored : Anchor → K → Option ℕ) where
  -- groups stay those of the entries where the keys do
  pub groups-same : (groups : Option (List (Option ℕ × List K) × List (Option ℕ × List K))) (old new : List (K × X)) → AreGroupsOf cmp anchored groups old → HasSameKeys cmp old new → AreGroupsOf cmp anchored groups new
  groups-same None old new are same = tt
  groups-same (Some groups) old new are same = grouped-same cmp anchored groups.0 groups.1 old new are same
