use Rattle.std.proofs.Common.{◌≡◌, drop}
use Rattle.zt_check_trace.proofs.MessageLemmas.{are_from}
use Rattle.zt_check_trace.proofs.messages.stand_in_order.Given as goal

-- those that are left decide
abbrev pub invariant-loop-sent : goal.invariant-loop-sent
invariant-loop-sent g l = are_from 0 l.sents ≡ are_from l.face (drop l.sent-index l.sents)
