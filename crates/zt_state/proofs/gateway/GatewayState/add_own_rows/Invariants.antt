use Rattle.std.proofs.Common.{◌≡◌, drop}
use Rattle.zt_model.specs.Trees.{with_own_rows}
use Rattle.zt_state.proofs.gateway.GatewayState.add_own_rows.Given as goal

-- with the regions left all are there
abbrev pub invariant-loop-region : goal.invariant-loop-region
invariant-loop-region g l =
    with_own_rows g.K.Ord.cmp (drop l.region-index l.regions) l.expr l.self ≡ with_own_rows g.K.Ord.cmp l.regions l.expr l.fn.self
