use Rattle.std.proofs.Common.{◌≡◌, ◌++◌, drop, map}
use Rattle.zt_region.specs.South.{plain_subregion}
use Rattle.zt_fabric_state.proofs.copying.copy_subregions.Given as goal

-- what is copied so far, and what is left, is all
abbrev pub invariant-loop-subregion : goal.invariant-loop-subregion
invariant-loop-subregion l = map plain_subregion l.copies.items ++ map plain_subregion (drop l.subregion-index l.subregions) ≡ map plain_subregion l.subregions
