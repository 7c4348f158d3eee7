use Rattle.std.proofs.Common.{refl}
use Rattle.zt_fabric_state.proofs.state.FabricState.turn_at.Goals as goal

pub returns-clause-former : goal.returns-clause-former
returns-clause-former g c = rw (← c.self.view_is) c.in_ok-turn.ensures.former

pub returns-clause-said : goal.returns-clause-said
returns-clause-said g c = rw (← c.self.view_is) c.in_ok-turn.ensures.said

pub returns-clause-state : goal.returns-clause-state
returns-clause-state g c = rw (← c.self.view_is) (rw c.in_ok-turn.ensures.state refl)
