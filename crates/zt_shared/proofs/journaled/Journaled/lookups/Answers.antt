use Rattle.zt_shared.proofs.journaled.Journaled.lookups.Goals as goal

pub returns : goal.returns
returns g c = rw (← c.self.view_is) c.lookups.ensures
