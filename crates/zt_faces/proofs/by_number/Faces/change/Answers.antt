use Rattle.zt_model.specs.Rows.{Face}
use Rattle.zt_faces.specs.Asked.{asked_in}
use Rattle.zt_faces.specs.Slots.{faces_in}
use Rattle.zt_faces.proofs.Highest.{up-to-changed}
use Rattle.zt_faces.proofs.Known.{asked-changed}
use Rattle.zt_faces.proofs.Routers.{changed}
use Rattle.zt_faces.proofs.Times.{timed-changed}
use Rattle.zt_faces.proofs.by_number.Faces.change.Goals as goal

pub invariant_of-self : goal.invariant_of-self
invariant_of-self g c =
    let number = λ (x : Face g.row.K.Denot). x.number in
    let next = λ (x : Face g.row.K.Denot). x.next in
    let change = g.C.FaceChange.changed c.args.change.now in
    let same = g.met.C.FaceChange.keeps_number c.args.change.now in
    let s = c.self.inside in
    let faces = faces_in s.slots.items in
    let askers = asked_in s.askers.rows in
    let made = c.change_in.ensures.faces in
    record {
      rising = c.change_in.ensures.rising;
      up_to = rw made (up-to-changed next number c.args.number s.highest_next change (g.met.C.FaceChange.keeps_next c.args.change.now) faces c.self.invariant.up_to);
      routers = rw made (changed c.args.number change same (g.met.C.FaceChange.keeps_router c.args.change.now) s.routers.keys faces c.self.invariant.routers);
      asked = rw made (asked-changed askers c.args.number change same (λ f here known. g.met.C.FaceChange.keeps_asks c.args.change.now f askers known) faces c.self.invariant.asked);
      timed = rw made (timed-changed c.args.number change same (g.met.C.FaceChange.keeps_pendings c.args.change.now) s.times.rows.keys faces c.self.invariant.timed);
    }
