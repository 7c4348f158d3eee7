use Rattle.std.proofs.Common.{◌≡◌, ◌≤◌, drop, length}
use Rattle.zt_gateway.specs.Running.{next_waiting}
use Rattle.zt_gateway.proofs.outbox.next_waiting.Given as goal

-- the least of the last messages is found
abbrev pub invariant-loop-left : goal.invariant-loop-left
invariant-loop-left g l = record {
  within : l.left ≤ length l.waiting;
  found : l.least ≡ next_waiting l.after (drop l.left l.waiting);
}

abbrev pub decreases-loop-left : goal.decreases-loop-left
decreases-loop-left g l = l.left
