use Rattle.std.proofs.Common.{refl}
use Rattle.zt_fabric_state.proofs.state.FabricState.commit_at.Goals as goal

pub commit_in-requires-clause-after : goal.commit_in-requires-clause-after
commit_in-requires-clause-after g c = rw (← c.self.view_is) at c.requires.after

pub returns : goal.returns
returns g c = rw (← c.self.view_is) (rw c.commit_in.ensures refl)
