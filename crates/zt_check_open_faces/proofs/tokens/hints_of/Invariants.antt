use Rattle.std.proofs.Common.{take}
use Rattle.zt_check_open_faces.specs.Places.{AreDeclared}
use Rattle.zt_check_open_faces.proofs.tokens.hints_of.Given as goal

-- the tokens of the faces so far are hinted
abbrev pub invariant-loop-face : goal.invariant-loop-face
invariant-loop-face g l = AreDeclared g.K.Ord.cmp l.declared (take l.face-index l.faces)
