use Rattle.std.proofs.Common.{◌∙◌}
use Rattle.zt_model.specs.Entities.{queryable_of}
use Rattle.zt_entities.proofs.Knowing.{sent-all, sent-more}
use Rattle.zt_entities.proofs.queryables.add_all.Goals as goal

pub loop-expr-preserved : goal.loop-expr-preserved
loop-expr-preserved g c =
    sent-more g.K.Ord.cmp (queryable_of g.K.Ord.cmp c.args.g.now c.args.id) c.args.face (c.in-Some.expr.now, c.in-Some.info.now) c.next.new.self c.loop-expr.sends.items c.add_queryable.new.sends.items c.in_ok-add_queryable.ensures
    ∙ rw c.in-Some.ensures.steps at c.loop-expr.invariant

pub returns : goal.returns
returns g c =
    let gives = c.into_iter-expr-iterator.ensures.into_iter_gives in
    sent-all g.K.Ord.cmp (queryable_of g.K.Ord.cmp c.args.g.now c.args.id) c.args.face c.args.found.now c.in_ok-known.known.entries c.loop-expr.expr-iterator c.into_iter-expr-iterator.result c.args.sends.now.items c.loop-expr.sends.items
    c.in_ok-known.ensures gives.6 c.in-None.ensures.steps.0 gives.0 c.loop-expr.invariant
