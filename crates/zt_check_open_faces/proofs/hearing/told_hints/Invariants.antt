use Rattle.std.proofs.Common.{take}
use Rattle.zt_check_open_faces.specs.Found.{AreTold}
use Rattle.zt_check_open_faces.proofs.hearing.told_hints.Given as goal

-- what the faces so far were told is hinted
abbrev pub invariant-loop-face : goal.invariant-loop-face
invariant-loop-face g l = AreTold g.K.Ord.cmp l.told (take l.face-index l.faces)
