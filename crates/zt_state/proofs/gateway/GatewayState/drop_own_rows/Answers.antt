use Rattle.std.proofs.Common.{◌<◌, ◌≤◌, ap, arith, length, sym, ◌∙◌}
use Rattle.std.proofs.lemmas.List.{drop_all}
use Rattle.zt_region.specs.declared.region.Region.TheVariants.{North}
use Rattle.zt_state.specs.OwnRows.{without_own_in}
use Rattle.zt_state.proofs.Unrouted.{own-next, own-none}
use Rattle.zt_state.proofs.gateway.GatewayState.drop_own_rows.Goals as goal

pub loop-region-preserved : goal.loop-region-preserved
loop-region-preserved g c =
    let regions = c.args.regions.now in
    let i = c.loop-region.region-index in
    let within : i < length regions = omega arith in
    own-next g.K.Ord.cmp regions i North c.args.expr.now c.loop-region.self c.drop_routed.new.self c.zid-own.result within c.zid-own.ensures c.drop_routed.ensures ∙ c.loop-region.invariant

pub returns : goal.returns
returns g c =
    let cmp = g.K.Ord.cmp in
    let e = c.args.expr.now in
    let regions = c.args.regions.now in
    let past : length regions ≤ c.loop-region.region-index = omega arith in
    sym (own-none cmp e c.loop-region.self)
    ∙ ap (λ rs. without_own_in cmp rs e c.loop-region.self) (sym (drop_all c.loop-region.region-index regions past))
    ∙ c.loop-region.invariant
