use Rattle.std.proofs.Common.{◌≡◌, take}
use Rattle.zt_check_fabric.proofs.queues.copy_queues.Given as goal

-- those so far are copied
abbrev pub invariant-loop-row : goal.invariant-loop-row
invariant-loop-row g l = l.copies.items ≡ take l.row-index l.rows
