use Rattle.zt_rows.proofs.Places.{ordered-in}
use Rattle.zt_rows.proofs.rising.RisingRows.find.Goals as goal

pub returns-clause-ordered : goal.returns-clause-ordered
returns-clause-ordered g c = rw (← c.self.view_is) (ordered-in c.self.inside.places.items c.self.invariant)
