use Rattle.std.proofs.Common.{◌∙◌}
use Rattle.zt_fabric_state.proofs.state.FabricState.close_end.Goals as goal

pub invariant_of-self : goal.invariant_of-self
invariant_of-self g c = record { beside = c.close.ensures.places ∙ c.self.invariant.beside; placed = c.self.invariant.placed }
