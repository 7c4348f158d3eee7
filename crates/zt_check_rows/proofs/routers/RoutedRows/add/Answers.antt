use Rattle.std.proofs.Common.{◌≡◌, drop, insert, subst, sym, ◌∙◌}
use Rattle.zt_model.specs.Lists.{with_key}
use Rattle.zt_model.specs.Rows.{RoutedRow}
use Rattle.zt_model.specs.Trees.{routed_order}
use Rattle.zt_check_hints.specs.Hinted.{IsHinted}
use Rattle.zt_check_faces.specs.Placed.{BeginsEqual, BeginsLess, IsBehind}
use Rattle.zt_check_faces.proofs.Placed.{placed_kept, placed_key, placed_new}
use Rattle.zt_check_rows.specs.Routed.{Rises}
use Rattle.zt_check_rows.proofs.Ordered.{rises_key}
use Rattle.zt_check_rows.proofs.RoutedOrder.{routed_total}
use Rattle.zt_check_rows.proofs.Routing.{routed_inserted}
use Rattle.zt_check_rows.proofs.routers.RoutedRows.add.Goals as goal

pub returns-in_default : goal.returns-in_default
returns-in_default g c =
    let order = λ (row : RoutedRow g.row.K.Denot). routed_order g.K.Ord.cmp c.args.row row in
    let rows = c.self.inside.rows.items in
    let found : IsBehind order rows c.in_default.field-0 × BeginsEqual order (drop c.in_default.field-0 rows) = rw (c.as_slice.ensures.value, c.expr.ensures, c.place_of-place.ensures) at c.in_default.ensures.place in
    rw (← c.self.view_is) (placed_kept order c.args.row c.in_default.field-0 rows found.0.within found.0.behind found.1 ∙ placed_key (routed_order g.K.Ord.cmp) c.args.row rows)

pub returns : goal.returns
returns g c =
    let order = λ (row : RoutedRow g.row.K.Denot). routed_order g.K.Ord.cmp c.args.row row in
    let rows = c.self.inside.rows.items in
    let found : IsBehind order rows c.in-Err.at × BeginsLess order (drop c.in-Err.at rows) = rw (c.as_slice.ensures.value, c.expr.ensures, c.place_of-place.ensures) at c.in-Err.ensures.place in
    rw (← c.self.view_is)
    (c.in_ok-insert.ensures.items
    ∙ (placed_new order c.args.row (λ row. row) c.in-Err.at rows found.0.within found.0.behind found.1
    ∙ placed_key (routed_order g.K.Ord.cmp) c.args.row rows))

pub invariant_of-self-2 : goal.invariant_of-self-2
invariant_of-self-2 g c =
    let hinted_there : IsHinted g.K.Ord.cmp c.args.row.expr c.place_of-place.result c.add.new.self = rw c.expr-2.ensures at c.in_ok-add.ensures.hinted in
    let order = λ (row : RoutedRow g.row.K.Denot). routed_order g.K.Ord.cmp c.args.row row in
    let rows = c.self.inside.rows.items in
    let found : IsBehind order rows c.in-Err.at × BeginsLess order (drop c.in-Err.at rows) = rw (c.as_slice.ensures.value, c.expr.ensures, c.place_of-place.ensures) at c.in-Err.ensures.place in
    let is : c.insert.new.self.items ≡ with_key (routed_order g.K.Ord.cmp) c.args.row rows =
    c.in_ok-insert.ensures.items
    ∙ (placed_new order c.args.row (λ row. row) c.in-Err.at rows found.0.within found.0.behind found.1
    ∙ placed_key (routed_order g.K.Ord.cmp) c.args.row rows) in
    record {
      hinted = routed_inserted g.K.Ord.cmp g.met.K.Key.laws.equal_is_same c.args.row c.place_of-place.result c.in-Err.at c.self.inside.places c.add.new.self rows c.insert.new.self.items c.place_of-place.ensures c.in_ok-add.ensures.kept hinted_there c.in_ok-insert.ensures.items c.self.invariant.hinted;
      rise = subst (Rises (routed_order g.K.Ord.cmp)) (sym is) (rises_key (routed_order g.K.Ord.cmp) (routed_total g.K.Ord.cmp g.met.K.Ord.total) c.args.row rows c.self.invariant.rise);
    }
