use Rattle.std.proofs.Common.{rules}
use Rattle.std.proofs.lemmas.Fn.{always_returns_same}
use Rattle.zt_model.specs.Trees.{routed_order, row_at}
use Rattle.zt_check_rows.proofs.Ordered.{found_by_halves}
use Rattle.zt_check_rows.proofs.RoutedOrder.{routed_total}
use Rattle.zt_check_rows.proofs.routers.place_in.Goals as goal

pub returns-clause-place : goal.returns-clause-place
returns-clause-place g c =
    let cmp = g.K.Ord.cmp in
    let sought = row_at cmp c.args.place.now.region c.args.place.now.source c.args.expr.now in
    let facts = c.binary_search_by.ensures in
    let searched = facts.position (λ row. routed_order cmp row sought) (always_returns_same _ _ _ (λ a r h called. (search rules, search rules))) in
    found_by_halves (routed_order cmp) (routed_total cmp g.met.K.Ord.total) sought c.args.rows.now c.binary_search_by.result c.requires facts.bound searched
