use Rattle.std.proofs.Common.{◌≡◌, ◌<◌, ◌≤◌, List, length, map, arith, refl}
use Rattle.zt_model.specs.Lists.{in_key_order, with_key}
use Rattle.zt_model.specs.Sourced.{SourcedRow}
use Rattle.zt_gateway.proofs.Walks.{back_more}
use Rattle.zt_gateway.proofs.sourced.expressions.Goals as goal

pub loop-left-preserved : goal.loop-left-preserved
loop-left-preserved g c =
    let rows = c.args.rows.now in
    let within : c.loop-left.left ≤ length rows = c.loop-left.invariant.within in
    let pos : 0 < c.loop-left.left = c.loop-left-test.true in
    let place : SourcedRow g.row.K.Denot → List g.row.K.Denot → List g.row.K.Denot = λ row keys. with_key g.K.Ord.cmp row.expr keys in
    let placed : List (SourcedRow g.row.K.Denot) → List g.row.K.Denot = λ rows. in_key_order g.K.Ord.cmp (map (λ row. row.expr) rows) in
    let more : c.insert_key.new.keys.items ≡ with_key g.K.Ord.cmp c.index-rows-left.result.expr c.loop-left.exprs.items = rw (← c.expr.ensures) c.in_ok-insert_key.ensures in
    record {
      within = omega arith;
      placed = back_more place placed (λ x xs. refl) rows c.loop-left.left c.index-rows-left.result c.loop-left.exprs.items c.insert_key.new.keys.items pos within c.index-rows-left.is c.loop-left.invariant.placed more;
    }
