use Rattle.zt_fabric_state.proofs.state.FabricState.prepare_at.Goals as goal

pub returns-clause-state : goal.returns-clause-state
returns-clause-state g c = rw (← c.self.view_is) c.prepare_in.ensures.state

pub returns-clause-said : goal.returns-clause-said
returns-clause-said g c = rw (← c.self.view_is) c.prepare_in.ensures.said
