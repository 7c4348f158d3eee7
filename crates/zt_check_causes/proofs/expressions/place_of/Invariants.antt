use Rattle.zt_check_faces.specs.Placed.{IsBehind}
use Rattle.zt_check_causes.proofs.expressions.place_of.Given as goal

-- the expression is behind those so far
abbrev pub invariant-loop-place : goal.invariant-loop-place
invariant-loop-place g l = IsBehind (g.K.Ord.cmp l.expr) l.exprs l.place
