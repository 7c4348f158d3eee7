use Rattle.std.proofs.Common.{◌≡◌, true, List, ◌++◌, ap, map, rules, ◌∙◌}
use Rattle.zt_region.specs.Region.{region_eq}
use Rattle.zt_region.specs.declared.region.WhatAmI.{WhatAmI}
use Rattle.zt_region.specs.declared.region.Zid.{Zid}
use Rattle.zt_hats.specs.Rules.{rules as rules_of}
use Rattle.zt_model.specs.Rows.{ById}
use Rattle.zt_model.specs.Sourced.{SourcedRow}
use Rattle.zt_gateway.proofs.listing.add_face.Goals as goal

pub returns-in_ok-add_live : goal.returns-in_ok-add_live
returns-in_ok-add_live g c =
    let region = c.args.region in
    let kind_of : WhatAmI → WhatAmI = (rules_of c.args.hat).kind_of in
    let f = c.args.f.now in
    let before = c.args.rows.now.items in
    let rows_of : WhatAmI → Zid → ById g.row.K.Denot → List (SourcedRow g.row.K.Denot) = λ kind zid live. map (λ row. record { kind = kind; zid = zid; expr = row.1 }) live in
    let here : region_eq f.region region ≡ true = search rules in
    rw here
    (c.in_ok-add_live.ensures
    ∙ ap (λ (kind : WhatAmI). before ++ rows_of kind c.zid.result c.live.result.now) (c.kind_of-kind.ensures ∙ ap kind_of c.mode.ensures)
    ∙ ap (λ (zid : Zid). before ++ rows_of (kind_of f.mode) zid c.live.result.now) c.zid.ensures
    ∙ ap (λ (live : ById g.row.K.Denot). before ++ rows_of (kind_of f.mode) f.zid live) c.live.ensures)
