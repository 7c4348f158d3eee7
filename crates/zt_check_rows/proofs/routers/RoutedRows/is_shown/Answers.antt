use Rattle.std.proofs.Common.{◌≡◌, ◌&&◌, ◌∙◌}
use Rattle.std.specs.List.{list_any}
use Rattle.zt_region.specs.declared.region.Region.{Region}
use Rattle.zt_region.specs.Admission.{admits}
use Rattle.zt_model.specs.Seen.{sees}
use Rattle.zt_check_hints.specs.Hinted.{hints_at}
use Rattle.zt_check_rows.specs.Routed.{is_routed_at}
use Rattle.zt_check_rows.proofs.Routing.{routed_by_hints}
use Rattle.zt_check_rows.proofs.routers.RoutedRows.is_shown.Goals as goal

pub returns : goal.returns
returns g c =
    let cmp = g.K.Ord.cmp in
    let e = c.args.expr.now in
    let regions = λ (source : Region). sees c.args.own source && admits c.args.refused.now source c.args.own in
    let hints = c.self.inside.places in
    let rows = c.self.inside.rows.items in
    let is : c.is_shown_in.result ≡ list_any (is_routed_at cmp regions c.args.zid e rows) (hints_at cmp e hints) = rw (c.deref.ensures.value, c.at.ensures) at c.is_shown_in.ensures in
    rw (← c.self.view_is) (is ∙ routed_by_hints cmp regions c.args.zid e hints rows c.self.invariant.hinted)
