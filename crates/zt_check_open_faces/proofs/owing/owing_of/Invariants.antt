use Rattle.std.proofs.Common.{take}
use Rattle.zt_check_open_faces.specs.Found.{AreListed, may_be_owed}
use Rattle.zt_check_open_faces.proofs.owing.owing_of.Given as goal

-- of the faces so far those are listed that something may be owed to
abbrev pub invariant-loop-face : goal.invariant-loop-face
invariant-loop-face g l = AreListed may_be_owed l.owing (take l.face-index l.faces)
