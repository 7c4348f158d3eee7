use Rattle.zt_state.proofs.Uncounting.{LeavesNone}
use Rattle.zt_state.proofs.live.uncount_all.Given as goal

-- whoever counts those left no more counts none
abbrev pub invariant-loop-expr : goal.invariant-loop-expr
invariant-loop-expr g l = LeavesNone g.K.Ord.cmp l.f.region l.f.live l.expr-iterator l.fn.live l.live
