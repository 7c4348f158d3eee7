use Rattle.std.proofs.Common.{◌≡◌, ◌≤◌, ◌-◌, length, take}
use Rattle.zt_link_queues.specs.Waiting.{grown_from}
use Rattle.zt_link_queues.proofs.queues.add_all.Given as goal

-- those before are added
abbrev pub invariant-loop-done : goal.invariant-loop-done
invariant-loop-done g l = record {
  within : l.done ≤ length l.sent;
  added : l.queues.items ≡ grown_from 1 (take l.done l.sent) l.fn.queues.items;
}

abbrev pub decreases-loop-done : goal.decreases-loop-done
decreases-loop-done g l = length l.sent - l.done
