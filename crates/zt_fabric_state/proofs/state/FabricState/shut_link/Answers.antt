use Rattle.std.proofs.Common.{◌+◌, length}
use Rattle.zt_fabric_state.proofs.Joints.{links_shut}
use Rattle.zt_fabric_state.proofs.state.FabricState.shut_link.Goals as goal

pub invariant_of-self : goal.invariant_of-self
invariant_of-self g c =
    record { beside = c.self.invariant.beside; placed = rw c.shut.ensures (links_shut (c.args.at + 1) (length c.self.inside.places + 1) c.self.inside.links c.self.invariant.placed) }
