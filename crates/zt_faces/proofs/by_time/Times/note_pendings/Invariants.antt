use Rattle.zt_faces.specs.Timed.{KeepsAll}
use Rattle.zt_faces.proofs.Times.{AreInBut}
use Rattle.zt_faces.proofs.by_time.Times.note_pendings.Given as goal

-- what isn't known yet is among those that are left
abbrev pub invariant-loop-id : goal.invariant-loop-id
invariant-loop-id l = KeepsAll l.fn.self.rows.keys l.self.rows.keys × AreInBut l.self.rows.keys l.face l.id-iterator l.pendings
