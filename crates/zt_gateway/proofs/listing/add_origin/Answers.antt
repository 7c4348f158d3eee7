use Rattle.std.proofs.Common.{◌≡◌, ◌&&◌, ◌++◌, true, false, not, ap, rules, sym, ◌∙◌}
use Rattle.std.proofs.lemmas.List.{append-nil}
use Rattle.zt_region.specs.Region.{region_eq, zid_eq}
use Rattle.zt_gateway.proofs.Listed.{no-origin-rows, origin-rows}
use Rattle.zt_gateway.proofs.listing.add_origin.Goals as goal

pub returns-in_ok-add_keys : goal.returns-in_ok-add_keys
returns-in_ok-add_keys g c =
    let own = c.args.own in
    let region = c.args.region in
    let here : region_eq c.args.origin.region region ≡ true = search rules in
    let other : zid_eq c.args.origin.source own ≡ false = search rules in
    c.in_ok-add_keys.ensures
    ∙ ap (λ rows. c.args.rows.now.items ++ rows) (sym (origin-rows own region c.args.origin here other c.args.keys.now.keys))

pub returns-else-eq : goal.returns-else-eq
returns-else-eq g c =
    let own = c.args.own in
    let region = c.args.region in
    let apart : (region_eq c.args.origin.region region && not (zid_eq c.args.origin.source own)) ≡ false = search rules in
    sym
    (ap (λ rows. c.args.rows.now.items ++ rows) (no-origin-rows own region c.args.origin apart c.args.keys.now.keys)
    ∙ append-nil c.args.rows.now.items)
