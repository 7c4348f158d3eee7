use Rattle.zt_indexes.proofs.Gathered.{gathered-all, gathered-none, gathered-one}
use Rattle.zt_indexes.proofs.anchored.anchored_keys.Goals as goal

pub loop-expr-init : goal.loop-expr-init
loop-expr-init g c = rw c.into_iter-expr-iterator.ensures.into_iter_gives.0 (gathered-none g.K.Ord.cmp g.K.Key.anchored c.args.keys.now.entries (c.new.result, c.new-2.result))

pub loop-expr-preserved : goal.loop-expr-preserved
loop-expr-preserved g c =
    let put = c.in_ok-put_at_anchors.ensures in
    gathered-one g.K.Ord.cmp g.K.Key.anchored c.args.keys.now.entries g.met.K.Key.laws.equal_is_same (c.in-Some.expr.now, c.in-Some.field-0-1.now) c.next.new.self c.loop-expr.anchored c.put_at_anchors.new.anchored
    (rw c.in-Some.ensures.steps at c.loop-expr.invariant) put.first put.last put.at_first put.at_last

pub returns : goal.returns
returns g c = gathered-all g.K.Ord.cmp g.K.Key.anchored c.args.keys.now.entries c.loop-expr.anchored (rw c.in-None.ensures.steps.0 at c.loop-expr.invariant)
