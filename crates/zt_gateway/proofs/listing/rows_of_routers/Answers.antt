use Rattle.std.proofs.Common.{List, ap, flat_map, refl, ◌∙◌}
use Rattle.std.proofs.lemmas.List.Concat.{flat_map-append}
use Rattle.std.specs.BTreeSet.{BTreeSet}
use Rattle.zt_region.specs.declared.region.Zid.{Zid}
use Rattle.zt_link_state.specs.Routed.{rows_in, rows_of}
use Rattle.zt_link_state.specs.declared.origin.Origin.{Origin}
use Rattle.zt_gateway.specs.Declarers.{router_rows}
use Rattle.zt_gateway.proofs.Listed.{router_rows_are}
use Rattle.zt_gateway.proofs.Walks.{rest_done, rest_more}
use Rattle.zt_gateway.proofs.listing.rows_of_routers.Goals as goal

pub loop-origin-preserved : goal.loop-origin-preserved
loop-origin-preserved g c =
    let rule = router_rows c.zid-own.result c.args.region in
    rest_more (λ (x : Origin × BTreeSet g.row.K.Denot). flat_map rule (rows_of x)) (λ (xs : List (Origin × BTreeSet g.row.K.Denot)). flat_map rule (rows_in xs)) (λ x xs. flat_map-append rule (rows_of x) (rows_in xs))
    c.loop-origin.origin-iterator c.next.new.self (c.in-Some.origin.now, c.in-Some.keys.now) c.loop-origin.rows.items c.add_origin.new.rows.items (flat_map rule c.args.g.now.routed)
    c.loop-origin.invariant c.in-Some.ensures.steps c.in_ok-add_origin.ensures

pub returns : goal.returns
returns g c =
    let rule = router_rows c.zid-own.result c.args.region in
    rest_done (λ (xs : List (Origin × BTreeSet g.row.K.Denot)). flat_map rule (rows_in xs)) refl c.loop-origin.origin-iterator c.loop-origin.rows.items (flat_map rule c.args.g.now.routed) c.in-None.ensures.steps.0 c.loop-origin.invariant
    ∙ ap (λ (zid : Zid). flat_map (router_rows zid c.args.region) c.args.g.now.routed) c.zid-own.ensures
    ∙ router_rows_are c.args.g.now.zid c.args.region c.args.g.now.routed
