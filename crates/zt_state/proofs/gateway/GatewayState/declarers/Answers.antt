use Rattle.std.proofs.Common.{◌∙◌}
use Rattle.zt_state.proofs.gateway.GatewayState.declarers.Goals as goal

pub returns : goal.returns
returns g c = rw (← c.self.view_is) (c.count.ensures ∙ c.self.invariant.counts.at c.args.expr.now c.args.region)
