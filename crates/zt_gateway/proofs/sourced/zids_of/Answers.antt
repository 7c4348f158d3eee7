use Rattle.std.proofs.Common.{◌<◌, ◌≤◌, length, arith}
use Rattle.zt_model.specs.Sourced.{zids_of}
use Rattle.zt_gateway.specs.Declarers.{with_zid}
use Rattle.zt_gateway.proofs.Listed.{zids_of_more}
use Rattle.zt_gateway.proofs.Walks.{back_more}
use Rattle.zt_gateway.proofs.sourced.zids_of.Goals as goal

pub loop-left-preserved : goal.loop-left-preserved
loop-left-preserved g c =
    let rows = c.args.rows.now in
    let within : c.loop-left.left ≤ length rows = c.loop-left.invariant.within in
    let pos : 0 < c.loop-left.left = c.loop-left-test.true in
    record {
      within = omega arith;
      placed = back_more (with_zid g.K.Ord.cmp c.args.kind c.args.expr.now) (zids_of g.K.Ord.cmp c.args.kind c.args.expr.now) (zids_of_more g.K.Ord.cmp c.args.kind c.args.expr.now) rows c.loop-left.left c.index-rows-left.result c.loop-left.zids.items c.insert_declarer.new.zids.items pos within c.index-rows-left.is c.loop-left.invariant.placed c.in_ok-insert_declarer.ensures;
    }
