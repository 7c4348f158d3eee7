use Rattle.std.proofs.Common.{refl}
use Rattle.zt_fabric_state.proofs.state.FabricState.undo_at.Goals as goal

pub returns : goal.returns
returns g c = rw (← c.self.view_is) (rw c.undo_in.ensures refl)
