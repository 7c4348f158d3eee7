use Rattle.std.proofs.Common.{◌≡◌, ◌&&◌, List, ap, length, sym, true, ◌∙◌}
use Rattle.std.proofs.lemmas.Result.{IfOk-weaker}
use Rattle.zt_region.specs.Region.{is_north}
use Rattle.zt_model.specs.Fabric.{Node}
use Rattle.zt_model.specs.Hat.{north_hat}
use Rattle.zt_model.specs.Linking.{climbs_to}
use Rattle.zt_model.specs.Rows.{Rows}
use Rattle.zt_links.proofs.Leading.{third-alone}
use Rattle.zt_links.proofs.ends.closes_loop.Goals as goal

pub returns-else-not-is_climbed : goal.returns-else-not-is_climbed
returns-else-not-is_climbed g c =
    let s = c.args.s.now in
    let region = c.in-Ok.region in
    let mode = c.args.node.now.rows.mode in
    let climbed : ((north_hat mode).has_one_face && is_north region) ≡ true =
    ap (λ (r : Rows g.row.K.Denot). (north_hat r.mode).has_one_face && is_north region) (sym c.in_ok-rows.ensures) ∙ sym c.if-not-is_climbed.ensures in
    IfOk-weaker c.climbs_to.result _ _
    (λ closes is. rw c.in-Ok.is
    (is
    ∙ ap (λ (gateways : List (Node g.row.K.Denot)). climbs_to (length gateways) s c.args.beyond c.args.gateway) c.gateways.ensures
    ∙ third-alone (north_hat mode).has_one_face (is_north region) (climbs_to (length s.gateways) s c.args.beyond c.args.gateway) climbed))
    c.climbs_to.ensures
