use Rattle.std.proofs.Common.{◌≡◌, drop}
use Rattle.std.specs.List.{list_any}
use Rattle.zt_check_finals.specs.Finishing.{asks_now}
use Rattle.zt_check_finals.proofs.pendings.is_asked_now.Given as goal

-- none so far is
abbrev pub invariant-loop-sent : goal.invariant-loop-sent
invariant-loop-sent g l =
    list_any (asks_now l.number l.pending) (drop l.sent-index l.sents)
    ≡ list_any (asks_now l.number l.pending) l.sents
