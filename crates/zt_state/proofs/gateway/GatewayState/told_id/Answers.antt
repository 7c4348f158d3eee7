use Rattle.std.proofs.Common.{◌∙◌}
use Rattle.zt_state.proofs.gateway.GatewayState.told_id.Goals as goal

pub returns : goal.returns
returns g c = rw (← c.self.view_is) (c.told_id.ensures ∙ c.self.invariant.seekers.told c.args.expr.now c.args.face)
