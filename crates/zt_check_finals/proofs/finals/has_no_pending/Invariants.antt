use Rattle.std.proofs.Common.{◌≡◌, drop}
use Rattle.std.specs.List.{list_any}
use Rattle.zt_check_finals.specs.Finishing.{stands_after}
use Rattle.zt_check_finals.proofs.finals.has_no_pending.Given as goal

-- none so far stands
abbrev pub invariant-loop-pending : goal.invariant-loop-pending
invariant-loop-pending g l =
    list_any (stands_after l.fabric l.sents l.gateway l.rows) (drop l.pending-index l.pendings)
    ≡ list_any (stands_after l.fabric l.sents l.gateway l.rows) l.pendings
