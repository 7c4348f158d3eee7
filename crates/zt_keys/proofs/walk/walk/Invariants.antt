use Rattle.std.proofs.Common.{◌≡◌, ◌≤◌, length}
use Rattle.zt_keys.specs.Walking.{strip, walked}
use Rattle.zt_keys.proofs.walk.walk.Given as goal

abbrev pub invariant-loop-x : goal.invariant-loop-x
invariant-loop-x l = record {
  rest : strip (walked l.a) (walked l.b) ≡ strip (walked l.first) (walked l.second);
  first : length l.a ≤ length l.first;
  second : length l.b ≤ length l.second;
}

abbrev pub decreases-loop-x : goal.decreases-loop-x
decreases-loop-x l = length l.a
