use Rattle.std.proofs.Common.{◌≡◌, ◌++◌, drop, map}
use Rattle.zt_region.specs.South.{plain_filter}
use Rattle.zt_fabric_state.proofs.copying.copy_filters.Given as goal

-- what is copied so far, and what is left, is all
abbrev pub invariant-loop-filter : goal.invariant-loop-filter
invariant-loop-filter l = map plain_filter l.copies.items ++ map plain_filter (drop l.filter-index l.filters) ≡ map plain_filter l.filters
