use Rattle.zt_rows.proofs.Places.{ordered-in}
use Rattle.zt_rows.proofs.rising.RisingRows.remove.Goals as goal

pub returns-then-is_some-clause-ordered : goal.returns-then-is_some-clause-ordered
returns-then-is_some-clause-ordered g c = rw (← c.self.view_is) (ordered-in c.self.inside.places.items c.self.invariant)

pub returns-else-is_some-clause-ordered : goal.returns-else-is_some-clause-ordered
returns-else-is_some-clause-ordered g c = rw (← c.self.view_is) (ordered-in c.self.inside.places.items c.self.invariant)
