use Rattle.std.proofs.Common.{◌≡◌, drop, true}
use Rattle.zt_faces.specs.Asked.{asked_in, knows}
use Rattle.zt_faces.proofs.Known.{Noted}
use Rattle.zt_faces.proofs.asked.note_all.Given as goal

abbrev pub invariant-loop-sent : goal.invariant-loop-sent
invariant-loop-sent l =
    Noted (λ askers p. knows (askers p) l.face l.id ≡ true) (asked_in l.fn.askers) (asked_in l.askers) (drop l.sent-index l.pendings) l.pendings
