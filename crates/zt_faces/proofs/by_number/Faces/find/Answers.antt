use Rattle.zt_faces.proofs.Gaps.{faces-rising}
use Rattle.zt_faces.proofs.by_number.Faces.find.Goals as goal

pub returns-clause-rising : goal.returns-clause-rising
returns-clause-rising g c = rw (← c.self.view_is) (faces-rising c.self.inside.slots.items c.self.invariant.rising)
