use Rattle.std.proofs.Common.{◌≡◌, drop, not, subst, sym, ◌∙◌}
use Rattle.zt_model.specs.Rows.{RoutedRow}
use Rattle.zt_model.specs.Trees.{is_routed_row, routed_order, row_at}
use Rattle.zt_check_faces.specs.Placed.{BeginsEqual, BeginsLess, IsBehind}
use Rattle.zt_check_rows.specs.Routed.{Rises}
use Rattle.zt_check_rows.proofs.Ordered.{out_found, out_none, rises_filter}
use Rattle.zt_check_rows.proofs.RoutedOrder.{routed_total}
use Rattle.zt_check_rows.proofs.routers.drop_routed.Goals as goal

pub returns-in-Ok-clause-gone : goal.returns-in-Ok-clause-gone
returns-in-Ok-clause-gone g c =
    let order = routed_order g.K.Ord.cmp in
    let rows = c.args.rows.now.items in
    let found : IsBehind (order c.args.gone.now) rows c.in-Ok.at × BeginsEqual (order c.args.gone.now) (drop c.in-Ok.at rows) = rw (c.as_slice.ensures.value, c.expr.ensures, c.requires.there) at c.in-Ok.ensures.place in
    c.remove.ensures.items ∙ out_found order (routed_total g.K.Ord.cmp g.met.K.Ord.total) c.args.gone.now rows c.in-Ok.at c.requires.rise found

pub returns-in-Ok-clause-rise : goal.returns-in-Ok-clause-rise
returns-in-Ok-clause-rise g c =
    let order = routed_order g.K.Ord.cmp in
    subst (Rises order) (sym (returns-in-Ok-clause-gone g c)) (rises_filter order (routed_total g.K.Ord.cmp g.met.K.Ord.total) (λ row. not (is_routed_row g.K.Ord.cmp c.args.gone.now row)) c.args.rows.now.items c.requires.rise)

pub returns-in_default-clause-gone : goal.returns-in_default-clause-gone
returns-in_default-clause-gone g c =
    let order = routed_order g.K.Ord.cmp in
    let rows = c.args.rows.now.items in
    let found : IsBehind (order c.args.gone.now) rows c.in_default.field-0 × BeginsLess (order c.args.gone.now) (drop c.in_default.field-0 rows) = rw (c.as_slice.ensures.value, c.expr.ensures, c.requires.there) at c.in_default.ensures.place in
    out_none order (routed_total g.K.Ord.cmp g.met.K.Ord.total) c.args.gone.now rows c.in_default.field-0 c.requires.rise found
