use Rattle.zt_state.proofs.gateway.GatewayState.live.Goals as goal

pub returns : goal.returns
returns g c = rw (← c.self.view_is) c.self.invariant.counts
