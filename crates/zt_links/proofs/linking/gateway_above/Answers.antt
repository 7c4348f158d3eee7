use Rattle.std.proofs.Common.{ap, option_map, sym, ◌∙◌}
use Rattle.zt_region.specs.Region.{is_north}
use Rattle.zt_model.specs.Fabric.{number_from}
use Rattle.zt_model.specs.Hat.{north_hat}
use Rattle.zt_model.specs.Linking.{gateway_beyond}
use Rattle.zt_model.specs.Lists.{first_where, nth}
use Rattle.zt_model.specs.Rows.{Rows}
use Rattle.zt_links.proofs.Above.{above_is, none_above, none_north}
use Rattle.zt_links.proofs.linking.gateway_above.Goals as goal

pub returns-in-Some-north_face : goal.returns-in-Some-north_face
returns-in-Some-north_face g c =
    let s = c.args.s.now in
    let node = c.in-Some.node.now in
    let kept = c.in_ok-rows.ensures in
    c.gateway_beyond.ensures
    ∙ ap (gateway_beyond s) (c.number.ensures ∙ ap (number_from 1 c.args.gateway c.in-Some-north_face.face) c.places.ensures)
    ∙ above_is s c.args.gateway c.in-Some-north_face.face node
    (ap (nth c.args.gateway) (sym c.gateways.ensures) ∙ sym c.in-Some.ensures)
    (ap (λ (r : Rows g.row.K.Denot). (north_hat r.mode).has_one_face) (sym kept) ∙ sym c.if-not-has_one_north.ensures)
    (c.in-Some-north_face.ensures ∙ ap (λ (r : Rows g.row.K.Denot). option_map (λ f. f.number) (first_where (λ f. is_north f.region) r.faces)) kept)

pub returns-then-not-has_one_north : goal.returns-then-not-has_one_north
returns-then-not-has_one_north g c =
    none_above c.args.s.now c.args.gateway c.in-Some.node.now
    (ap (nth c.args.gateway) (sym c.gateways.ensures) ∙ sym c.in-Some.ensures)
    (ap (λ (r : Rows g.row.K.Denot). (north_hat r.mode).has_one_face) (sym c.in_ok-rows.ensures) ∙ sym c.if-not-has_one_north.ensures)

pub returns-in-None : goal.returns-in-None
returns-in-None g c =
    none_north c.args.s.now c.args.gateway c.in-Some.node.now
    (ap (nth c.args.gateway) (sym c.gateways.ensures) ∙ sym c.in-Some.ensures)
    (c.in-None.ensures ∙ ap (λ (r : Rows g.row.K.Denot). option_map (λ f. f.number) (first_where (λ f. is_north f.region) r.faces)) c.in_ok-rows.ensures)
