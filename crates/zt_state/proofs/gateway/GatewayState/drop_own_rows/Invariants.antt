use Rattle.std.proofs.Common.{◌≡◌, drop}
use Rattle.zt_state.specs.OwnRows.{without_own_in}
use Rattle.zt_state.proofs.gateway.GatewayState.drop_own_rows.Given as goal

-- without those of the regions left none are there
abbrev pub invariant-loop-region : goal.invariant-loop-region
invariant-loop-region g l =
    without_own_in g.K.Ord.cmp (drop l.region-index l.regions) l.expr l.self ≡ without_own_in g.K.Ord.cmp l.regions l.expr l.fn.self
