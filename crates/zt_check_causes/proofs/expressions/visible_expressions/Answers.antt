use Rattle.std.proofs.Common.{◌≡◌, List, [], ap, ap₂, rules, ◌∙◌}
use Rattle.zt_model.specs.Rows.{Face}
use Rattle.zt_check_causes.specs.Keys.{with_keys}
use Rattle.zt_check_causes.proofs.Seen.{routed_seen, seen_of, visible_is}
use Rattle.zt_check_causes.proofs.expressions.visible_expressions.Goals as goal

pub returns : goal.returns
returns g c =
    let cmp = g.K.Ord.cmp in
    let rows = c.args.rows.now in
    let own = c.args.own in
    let routed = c.add_all_routed.new.exprs.items in
    let empty_ : c.new-exprs.result.items ≡ [] = search rules in
    visible_is cmp rows own routed c.add_faces.new.exprs.items
    (c.in_ok-add_all_routed.ensures ∙ ap (with_keys cmp (routed_seen rows.mode own rows.zid rows.routed)) empty_)
    (c.in_ok-add_faces.ensures ∙ ap₂ (λ m (fs : List (Face g.row.K.Denot)). with_keys cmp (seen_of m own fs) routed) c.mode.ensures c.faces.ensures)
