use Rattle.std.proofs.Common.{sym, ◌∙◌}
use Rattle.zt_model.specs.Trees.{routed_order, row_at}
use Rattle.zt_check_rows.proofs.Ordered.{has_found, has_none}
use Rattle.zt_check_rows.proofs.RoutedOrder.{routed_total, tests_are}
use Rattle.zt_check_rows.proofs.routers.has_row.Goals as goal

pub returns-in-Ok : goal.returns-in-Ok
returns-in-Ok g c =
    let cmp = g.K.Ord.cmp in
    let sought = row_at cmp c.args.place.now.region c.args.place.now.source c.args.expr.now in
    sym (has_found (routed_order cmp) (routed_total cmp g.met.K.Ord.total) sought c.args.rows.now _ c.in-Ok.ensures.place)
    ∙ tests_are cmp c.args.place.now c.args.expr.now c.args.rows.now

pub returns-in-Err : goal.returns-in-Err
returns-in-Err g c =
    let cmp = g.K.Ord.cmp in
    let sought = row_at cmp c.args.place.now.region c.args.place.now.source c.args.expr.now in
    sym (has_none (routed_order cmp) (routed_total cmp g.met.K.Ord.total) sought c.args.rows.now _ c.requires c.in-Err.ensures.place)
    ∙ tests_are cmp c.args.place.now c.args.expr.now c.args.rows.now
