use Rattle.std.proofs.Common.{◌∙◌}
use Rattle.zt_state.proofs.gateway.GatewayState.north.Goals as goal

pub returns-clause-rising : goal.returns-clause-rising
returns-clause-rising g c = rw (← c.self.view_is) c.self.invariant.rising

pub returns-clause-north : goal.returns-clause-north
returns-clause-north g c = rw (← c.self.view_is) (c.north.ensures ∙ c.self.invariant.seekers.north)
