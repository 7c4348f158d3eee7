use Rattle.std.proofs.Common.{◌≤◌, ◌<◌, length, arith}
use Rattle.zt_calls.specs.Leaving.{gone_from}
use Rattle.zt_calls.proofs.Doing.{leads-all, leads-done, leads-more}
use Rattle.zt_calls.proofs.routed.forget_each.Goals as goal

pub loop-expr-init : goal.loop-expr-init
loop-expr-init g c = leads-all g.K.Ord.cmp g.K.Key.matching (gone_from g.K.Ord.cmp g.K.Key.matching c.args.region) c.args.exprs.now c.args.g.now c.args.speech.now

pub loop-expr-preserved : goal.loop-expr-preserved
loop-expr-preserved g c =
    let rows = c.args.exprs.now in
    let within : c.loop-expr.expr-index < length rows = omega arith in
    leads-more g.K.Ord.cmp g.K.Key.matching (gone_from g.K.Ord.cmp g.K.Key.matching c.args.region) rows c.loop-expr.expr-index c.expr-item.result c.args.g.now c.loop-expr.g c.forget_all.new.g c.args.speech.now c.loop-expr.speech c.forget_all.new.speech within c.expr-item.is c.loop-expr.invariant c.in_ok-forget_all.ensures

pub returns : goal.returns
returns g c =
    let rows = c.args.exprs.now in
    let past : length rows ≤ c.loop-expr.expr-index = omega arith in
    leads-done g.K.Ord.cmp g.K.Key.matching (gone_from g.K.Ord.cmp g.K.Key.matching c.args.region) rows c.loop-expr.expr-index c.args.g.now c.loop-expr.g c.args.speech.now c.loop-expr.speech past c.loop-expr.invariant
