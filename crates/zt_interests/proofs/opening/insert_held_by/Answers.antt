use Rattle.std.proofs.Common.{◌≡◌, false, ap, map, rules, sym, ◌∙◌}
use Rattle.zt_region.specs.Region.{is_north}
use Rattle.zt_model.specs.Routing.{interest_order}
use Rattle.zt_interests.specs.Held.{in_both}
use Rattle.zt_tokens.specs.Gathered.{with_keys}
use Rattle.zt_interests.proofs.opening.insert_held_by.Goals as goal

pub returns-in_ok-insert_rows : goal.returns-in_ok-insert_rows
returns-in_ok-insert_rows g c =
    let south : is_north c.args.f.now.region ≡ false = sym c.is_north.ensures ∙ (search rules) in
    let order = interest_order g.K.Ord.cmp g.K.Key.matching in
    rw south (c.in_ok-insert_rows.ensures ∙ ap (λ rows. with_keys order (map (λ row. in_both row.1) rows) c.args.interests.now) c.held.ensures)
