use Rattle.std.proofs.Common.{◌||◌, ◌&&◌, ap, ◌∙◌}
use Rattle.zt_indexes.specs.Grouped.{is_in}
use Rattle.zt_indexes.specs.Sought.{is_sought}
use Rattle.zt_indexes.proofs.Seeking.{step}
use Rattle.zt_indexes.proofs.search.gather_each.Goals as goal

pub loop-expr-preserved : goal.loop-expr-preserved
loop-expr-preserved g c q =
    let cmp = g.K.Ord.cmp in
    let sought = is_sought cmp (g.K.Key.matching c.args.key.now) (g.T.RegionTest.passes c.args.test.now) c.args.keys.now.entries in
    let left = c.next.new.self in
    ap (λ b. b || (is_in cmp q left && sought q)) (c.in_ok-add_sought.ensures q)
    ∙ step cmp g.met.K.Ord.total g.met.K.Key.laws.equal_is_same sought q c.in-Some.expr.now (is_in cmp q c.loop-expr.found.items) left
    ∙ rw c.in-Some.ensures.steps at (c.loop-expr.invariant q)
