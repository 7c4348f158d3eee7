use Rattle.zt_faces.specs.Asked.{AreKnown, asked_in}
use Rattle.zt_faces.proofs.Known.{Noted}
use Rattle.zt_faces.proofs.asked.Askers.note_faces.Given as goal

abbrev pub invariant-loop-f : goal.invariant-loop-f
invariant-loop-f g l =
    Noted (λ askers f. AreKnown askers f.number f.asks) (asked_in l.fn.self.rows) (asked_in l.self.rows) l.f-iterator l.fn.faces
