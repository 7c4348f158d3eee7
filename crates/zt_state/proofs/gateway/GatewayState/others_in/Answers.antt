use Rattle.zt_state.proofs.gateway.GatewayState.others_in.Goals as goal

pub returns-clause-rising : goal.returns-clause-rising
returns-clause-rising g c = rw (← c.self.view_is) c.self.invariant.rising

pub returns-clause-all : goal.returns-clause-all
returns-clause-all g c =
    let s = c.self.inside in
    rw (← c.self.view_is) (c.others_in.ensures s.faces c.self.invariant.seekers)
