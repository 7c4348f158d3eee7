use Rattle.zt_check_rows.proofs.Routing.{routed_more}
use Rattle.zt_check_rows.proofs.routers.hints_of.Goals as goal

pub loop-row-preserved : goal.loop-row-preserved
loop-row-preserved g c =
    routed_more g.K.Ord.cmp g.met.K.Key.laws.equal_is_same c.place_of.result c.expr.result.now c.loop-row.places c.add.new.self c.args.rows.now c.loop-row.row-index c.row-item.result c.loop-row-test.true c.row-item.is c.place_of.ensures c.expr.ensures c.in_ok-add.ensures.kept c.in_ok-add.ensures.hinted c.loop-row.invariant
