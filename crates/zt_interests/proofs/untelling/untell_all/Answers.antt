use Rattle.std.proofs.Common.{flat_map, map}
use Rattle.zt_interests.specs.Untold.{untold_of}
use Rattle.zt_interests.proofs.Gone.{told_done, told_more}
use Rattle.zt_interests.proofs.untelling.untell_all.Goals as goal

pub loop-expr-preserved : goal.loop-expr-preserved
loop-expr-preserved g c =
    let rule = untold_of g.K.Ord.cmp g.K.Key.matching c.args.f.now in
    let all = map (λ m. (c.args.face, m)) (flat_map rule c.args.exprs.now) in
    told_more c.args.face rule c.args.exprs.now c.loop-expr.expr-index c.expr-item.result c.loop-expr.sends.items c.untell_one.new.sends.items all c.loop-expr-test.true c.expr-item.is c.loop-expr.invariant c.in_ok-untell_one.ensures

pub returns : goal.returns
returns g c =
    let rule = untold_of g.K.Ord.cmp g.K.Key.matching c.args.f.now in
    let all = map (λ m. (c.args.face, m)) (flat_map rule c.args.exprs.now) in
    told_done c.args.face rule c.args.exprs.now c.loop-expr.expr-index c.loop-expr.sends.items all c.loop-expr-test.false c.loop-expr.invariant
