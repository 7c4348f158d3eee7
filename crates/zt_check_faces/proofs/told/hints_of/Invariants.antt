use Rattle.std.proofs.Common.{take}
use Rattle.zt_check_faces.specs.Hinted.{AreHinted}
use Rattle.zt_check_faces.proofs.told.hints_of.Given as goal

-- the rows so far are hinted
abbrev pub invariant-loop-row : goal.invariant-loop-row
invariant-loop-row g l = AreHinted g.K.Ord.cmp l.ids (take l.row-index l.rows)
