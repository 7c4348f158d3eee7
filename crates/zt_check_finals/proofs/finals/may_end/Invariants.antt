use Rattle.std.proofs.Common.{◌≡◌, drop}
use Rattle.std.specs.List.{list_any}
use Rattle.zt_check_finals.specs.Ending.{is_ended}
use Rattle.zt_check_finals.proofs.finals.may_end.Given as goal

-- none so far may
abbrev pub invariant-loop-pending : goal.invariant-loop-pending
invariant-loop-pending l =
    list_any (is_ended l.ended) (drop l.pending-index l.pendings)
    ≡ list_any (is_ended l.ended) l.pendings
