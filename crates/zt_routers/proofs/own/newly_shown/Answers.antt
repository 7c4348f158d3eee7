use Rattle.std.proofs.Common.{◌≤◌, ◌<◌, ◌++◌, ◌∷◌, [], ap, length, arith, Bool, ◌∙◌}
use Rattle.zt_region.specs.declared.region.Region.{Region}
use Rattle.zt_region.specs.declared.region.Region.TheVariants.{North}
use Rattle.zt_model.specs.Trees.{is_newly_shown}
use Rattle.zt_routers.proofs.Loops.{kept-cons, kept_alike, kept_done, kept_more, kept_regions}
use Rattle.zt_routers.proofs.own.newly_shown.Goals as goal

pub loop-region-init : goal.loop-region-init
loop-region-init g c =
    let test : Region → Bool = is_newly_shown g.K.Ord.cmp c.args.g.now c.args.source c.args.expr.now in
    let regions = c.regions_of_routers-region-items.result.now in
    ap (λ kept. kept ++ kept_regions c.args.g.now test regions) (c.in_ok-add_newly_shown.ensures ∙ ap (λ kept. kept ++ kept_regions c.args.g.now test (North ∷ [])) c.new-regions.ensures.items)
    ∙ kept-cons c.args.g.now test North regions

pub loop-region-preserved : goal.loop-region-preserved
loop-region-preserved g c =
    let test : Region → Bool = is_newly_shown g.K.Ord.cmp c.args.g.now c.args.source c.args.expr.now in
    let regions = c.regions_of_routers-region-items.result.now in
    let within : c.loop-region.region-index < length regions = omega arith in
    kept_more c.args.g.now test regions c.loop-region.region-index North c.loop-region.regions.items _ _ within c.loop-region.invariant c.in_ok-add_newly_shown-2.ensures

pub returns : goal.returns
returns g c =
    let test : Region → Bool = is_newly_shown g.K.Ord.cmp c.args.g.now c.args.source c.args.expr.now in
    let regions = c.regions_of_routers-region-items.result.now in
    let past : length regions ≤ c.loop-region.region-index = omega arith in
    kept_done c.args.g.now test regions c.loop-region.region-index c.loop-region.regions.items _ past c.loop-region.invariant
    ∙ kept_alike c.args.g.now test North regions c.args.g.now.regions c.regions_of_routers-region-items.ensures
