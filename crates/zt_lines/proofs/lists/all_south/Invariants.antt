use Rattle.std.proofs.Common.{◌≡◌, drop}
use Rattle.std.specs.List.{list_all}
use Rattle.zt_lines.proofs.lists.all_south.Given as goal
use Rattle.zt_lines.specs.Lists.{is_south}

-- south regions so far
abbrev pub invariant-loop-region : goal.invariant-loop-region
invariant-loop-region l = list_all is_south l.regions ≡ list_all is_south (drop l.region-index l.regions)
