use Rattle.std.proofs.Common.{refl}
use Rattle.zt_fabric_state.proofs.state.FabricState.settle_at.Goals as goal

pub settle_in-requires-clause-after : goal.settle_in-requires-clause-after
settle_in-requires-clause-after g c = rw (← c.self.view_is) at c.requires.after

pub returns : goal.returns
returns g c = rw (← c.self.view_is) (rw c.settle_in.ensures refl)
