use Rattle.zt_fabric_state.proofs.Joints.{links_taken}
use Rattle.zt_fabric_state.proofs.state.FabricState.pop_link.Goals as goal

pub invariant_of-self : goal.invariant_of-self
invariant_of-self g c = record { beside = c.self.invariant.beside; placed = rw c.pop.ensures (links_taken _ _ c.self.inside.links c.self.invariant.placed) }
