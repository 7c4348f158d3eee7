use Rattle.std.proofs.Common.{◌≡◌, ◌++◌, drop}
use Rattle.zt_check_fabric.specs.Made.{pendings_in}
use Rattle.zt_check_fabric.proofs.pending.add_pendings.Given as goal

-- those so far, and those that are left, are all
abbrev pub invariant-loop-sent : goal.invariant-loop-sent
invariant-loop-sent g l =
    l.pendings.items ++ pendings_in l.face l.number (drop l.sent-index l.sents) ≡ l.fn.pendings.items ++ pendings_in l.face l.number l.sents
