use Rattle.std.proofs.Common.{◌≡◌, take}
use Rattle.zt_indexes.specs.Counted.{count_in}
use Rattle.zt_indexes.proofs.regions.place_of.Given as goal

-- none so far
abbrev pub invariant-loop-place : goal.invariant-loop-place
invariant-loop-place l = count_in l.region (take l.place l.rows) ≡ 0
