use Rattle.std.proofs.Common.{[], ◌∷◌, ap, map, refl}
use Rattle.zt_indexes.specs.Recounts.{recounts-less}
use Rattle.zt_state.proofs.Unrouted.{leads-end, leads-on}
use Rattle.zt_state.proofs.routed.uncount_keys.Goals as goal

pub loop-expr-preserved : goal.loop-expr-preserved
loop-expr-preserved g c =
    let r = c.args.region in
    let k = c.in-Some.expr.now in
    leads-on g.K.Ord.cmp _ _ _ _ ((r, k) ∷ []) [] _ [] _ _ _ (ap (map (λ e. (r, e))) c.in-Some.ensures.steps) refl c.loop-expr.invariant
    (recounts-less g.K.Ord.cmp g.met.K.Ord.total r k c.loop-expr.live c.remove.new.self c.remove.ensures.less)

pub returns : goal.returns
returns g c = leads-end g.K.Ord.cmp _ _ _ _ _ _ (ap (map (λ e. (c.args.region, e))) c.in-None.ensures.steps.0) refl c.loop-expr.invariant
