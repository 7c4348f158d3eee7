use Rattle.zt_check_open_faces.specs.Found.{AreTold}
use Rattle.zt_check_open_faces.proofs.hearing.forget_gone.Given as goal

-- what was told is hinted still
abbrev pub invariant-loop-expr : goal.invariant-loop-expr
invariant-loop-expr g l = AreTold g.K.Ord.cmp l.told l.faces
