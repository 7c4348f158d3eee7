use Rattle.zt_faces.specs.Asked.{IsKnown, asked_in}
use Rattle.zt_faces.proofs.Known.{Noted}
use Rattle.zt_faces.proofs.asked.Askers.note_asks.Given as goal

abbrev pub invariant-loop-id : goal.invariant-loop-id
invariant-loop-id g l =
    Noted (λ askers row. IsKnown askers l.face row.0 row.1.pendings) (asked_in l.fn.self.rows) (asked_in l.self.rows) l.id-iterator l.asks
