use Rattle.std.proofs.Common.{[], map}
use Rattle.zt_state.proofs.Unrouted.{Leads}
use Rattle.zt_state.proofs.routed.uncount_keys.Given as goal

-- whoever counts those left no more counts none
abbrev pub invariant-loop-expr : goal.invariant-loop-expr
invariant-loop-expr g l = Leads g.K.Ord.cmp (map (λ e. (l.region, e)) l.keys.keys) [] (map (λ e. (l.region, e)) l.expr-iterator) [] l.fn.live l.live
