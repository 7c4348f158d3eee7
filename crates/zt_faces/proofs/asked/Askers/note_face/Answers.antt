use Rattle.zt_faces.proofs.asked.Askers.note_face.Goals as goal

pub returns-clause-here : goal.returns-clause-here
returns-clause-here g c = rw (c.number.ensures, c.asks.ensures) at c.note_asks.ensures.here
