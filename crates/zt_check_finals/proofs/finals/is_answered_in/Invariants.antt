use Rattle.std.proofs.Common.{◌≡◌, drop}
use Rattle.std.specs.List.{list_any}
use Rattle.zt_check_finals.specs.Finishing.{answers_for}
use Rattle.zt_check_finals.proofs.finals.is_answered_in.Given as goal

-- none so far does
abbrev pub invariant-loop-sent : goal.invariant-loop-sent
invariant-loop-sent g l =
    list_any (answers_for l.face l.id) (drop l.sent-index l.sents)
    ≡ list_any (answers_for l.face l.id) l.sents
