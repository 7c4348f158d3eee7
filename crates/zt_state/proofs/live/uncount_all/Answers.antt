use Rattle.std.proofs.Common.{◌∙◌}
use Rattle.zt_indexes.specs.Recounts.{recounts-less}
use Rattle.zt_state.proofs.Uncounting.{leaves-all, leaves-done, leaves-less}
use Rattle.zt_state.proofs.live.uncount_all.Goals as goal

pub loop-expr-init : goal.loop-expr-init
loop-expr-init g c =
    leaves-all g.K.Ord.cmp c.args.f.now.region c.args.f.now.live c.into_iter-expr-iterator.result c.args.live.now
    (c.into_iter-expr-iterator.ensures.into_iter_gives ∙ c.iter-expr-items.ensures.rest ∙ c.live.ensures)

pub loop-expr-preserved : goal.loop-expr-preserved
loop-expr-preserved g c =
    let cmp = g.K.Ord.cmp in
    let r = c.args.f.now.region in
    let less = rw c.region.ensures at c.remove.ensures.less in
    leaves-less cmp r c.args.f.now.live c.loop-expr.expr-iterator c.next.new.self (c.in-Some.field-0-0.now, c.in-Some.expr.now) c.args.live.now c.loop-expr.live c.remove.new.self
    c.in-Some.ensures.steps c.loop-expr.invariant
    (recounts-less cmp g.met.K.Ord.total r c.in-Some.expr.now c.loop-expr.live c.remove.new.self less)

pub returns : goal.returns
returns g c =
    leaves-done g.K.Ord.cmp c.args.f.now.region c.args.f.now.live c.loop-expr.expr-iterator c.args.live.now c.loop-expr.live c.in-None.ensures.steps.0 c.loop-expr.invariant
