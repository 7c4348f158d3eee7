use Rattle.std.proofs.Common.{◌≤◌, length}
use Rattle.zt_keys.proofs.Common.{AreAlike}
use Rattle.zt_keys.proofs.walk.common_len.Given as goal

abbrev pub invariant-loop-place : goal.invariant-loop-place
invariant-loop-place l = record {
  alike : AreAlike l.first l.second l.end l.place;
  first : l.end ≤ length l.first;
  second : l.end ≤ length l.second;
}
