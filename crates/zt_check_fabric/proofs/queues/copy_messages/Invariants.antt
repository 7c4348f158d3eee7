use Rattle.std.proofs.Common.{◌≡◌, take}
use Rattle.zt_check_fabric.proofs.queues.copy_messages.Given as goal

-- those so far are copied
abbrev pub invariant-loop-message : goal.invariant-loop-message
invariant-loop-message g l = l.copies.items ≡ take l.message-index l.messages
