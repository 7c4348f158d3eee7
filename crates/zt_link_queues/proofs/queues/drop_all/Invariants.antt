use Rattle.std.proofs.Common.{◌≡◌, ◌≤◌, length, take}
use Rattle.zt_link_queues.specs.Waiting.{Queued, grown_from}
use Rattle.zt_link_queues.proofs.queues.drop_all.Given as goal

-- those before are still added
abbrev pub invariant-loop-left : goal.invariant-loop-left
invariant-loop-left g l = record {
  within : l.left ≤ length l.sent;
  added : (before : Queued _) → l.fn.queues.items ≡ grown_from 1 l.sent before → l.queues.items ≡ grown_from 1 (take l.left l.sent) before;
}

abbrev pub decreases-loop-left : goal.decreases-loop-left
decreases-loop-left g l = l.left
