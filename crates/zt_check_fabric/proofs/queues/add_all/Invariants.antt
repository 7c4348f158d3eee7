use Rattle.std.proofs.Common.{◌≡◌, ◌++◌, drop}
use Rattle.zt_model.specs.Fabric.{printed_for}
use Rattle.zt_check_fabric.proofs.queues.add_all.Given as goal

-- what waits now, and what is left, is all
abbrev pub invariant-loop-sent : goal.invariant-loop-sent
invariant-loop-sent g l = l.messages.items ++ printed_for l.face (drop l.sent-index l.sents) ≡ l.fn.messages.items ++ printed_for l.face l.sents
