use Rattle.std.proofs.Common.{◌-◌, ◌≤◌, length}
use Rattle.zt_interests.proofs.upstream.does_one_stand.Given as goal

-- the reach grows
abbrev pub invariant-loop-reach : goal.invariant-loop-reach
invariant-loop-reach g l = 1 ≤ l.reach

abbrev pub decreases-loop-reach : goal.decreases-loop-reach
decreases-loop-reach g l = length l.pendings - l.reach
