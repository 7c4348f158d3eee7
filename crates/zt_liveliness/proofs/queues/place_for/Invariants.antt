use Rattle.std.proofs.Common.{◌≡◌, ◌++◌, drop, take}
use Rattle.zt_gateway.specs.Running.{oldest_for, without_oldest}
use Rattle.zt_liveliness.proofs.queues.place_for.Given as goal

-- the message is none of those so far
abbrev pub invariant-loop-place : goal.invariant-loop-place
invariant-loop-place g l = record {
  oldest : oldest_for l.face l.waiting ≡ oldest_for l.face (drop l.place l.waiting);
  left : without_oldest l.face l.waiting ≡ take l.place l.waiting ++ without_oldest l.face (drop l.place l.waiting);
}
