use Rattle.std.proofs.Common.{subst, sym}
use Rattle.zt_faces.specs.Asked.{IsAskerOf, asked_in}
use Rattle.zt_faces.specs.Slots.{faces_in}
use Rattle.zt_faces.proofs.Gaps.{faces-rising}
use Rattle.zt_faces.proofs.Known.{asker-found}
use Rattle.zt_faces.proofs.by_number.Faces.asker.Goals as goal

pub returns-clause-asker : goal.returns-clause-asker
returns-clause-asker g c =
    let s = c.self.inside in
    rw (← c.self.view_is)
    (subst (λ asker. IsAskerOf asker c.args.face c.args.id (faces_in s.slots.items)) (sym c.find.ensures) (asker-found (asked_in s.askers.rows) c.args.face c.args.id (faces_in s.slots.items) c.self.invariant.asked))

pub returns-clause-rising : goal.returns-clause-rising
returns-clause-rising g c = rw (← c.self.view_is) (faces-rising c.self.inside.slots.items c.self.invariant.rising)
