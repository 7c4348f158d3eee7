use Rattle.std.proofs.Common.{◌≡◌, ◌++◌, drop}
use Rattle.zt_check_asks.specs.Answering.{answers_from}
use Rattle.zt_check_asks.proofs.asks.answers_in.Given as goal

-- the answers so far, and those of what is left, are all
abbrev pub invariant-loop-sent : goal.invariant-loop-sent
invariant-loop-sent g l =
    l.answers.items ++ answers_from l.id l.number (drop l.sent-index l.sents) ≡ answers_from l.id l.number l.sents
