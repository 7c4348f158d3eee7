use Rattle.zt_faces.proofs.Times.{AreTimedBut}
use Rattle.zt_faces.proofs.by_time.Times.note_faces.Given as goal

-- what isn't known yet is among those that are left
abbrev pub invariant-loop-f : goal.invariant-loop-f
invariant-loop-f g l = AreTimedBut l.self.rows.keys l.f-iterator l.fn.faces
