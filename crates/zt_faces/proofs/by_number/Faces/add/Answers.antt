use Rattle.zt_faces.specs.Asked.{asked_in}
use Rattle.zt_faces.specs.Slots.{faces_in}
use Rattle.zt_faces.proofs.Known.{asked-changed}
use Rattle.zt_faces.proofs.Routers.{changed}
use Rattle.zt_faces.proofs.by_number.Faces.add.Goals as goal

pub invariant_of-self : goal.invariant_of-self
invariant_of-self g c =
    let added = g.C.FaceAddition.added c.args.addition.now in
    let same = g.met.C.FaceAddition.keeps_number c.args.addition.now in
    let s = c.self.inside in
    let faces = faces_in s.slots.items in
    let askers = asked_in s.askers.rows in
    let made = c.in-Ok.ensures in
    record {
      rising = made.rising;
      up_to = made.up_to;
      routers = rw made.ok (changed c.args.number added same (g.met.C.FaceAddition.keeps_router c.args.addition.now) s.routers.keys faces c.self.invariant.routers);
      asked = rw made.ok (asked-changed askers c.args.number added same (λ f here known. g.met.C.FaceAddition.keeps_asks c.args.addition.now f askers known) faces c.self.invariant.asked);
      timed = made.timed;
    }
