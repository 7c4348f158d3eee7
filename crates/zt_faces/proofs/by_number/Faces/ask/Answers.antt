use Rattle.std.proofs.Common.{refl}
use Rattle.zt_model.specs.Routing.{asked_as}
use Rattle.zt_model.specs.Rows.{Face}
use Rattle.zt_faces.specs.Slots.{faces_in}
use Rattle.zt_faces.proofs.Highest.{up-to-changed}
use Rattle.zt_faces.proofs.Routers.{changed}
use Rattle.zt_faces.proofs.Times.{timed-changed}
use Rattle.zt_faces.proofs.by_number.Faces.ask.Goals as goal

pub invariant_of-self : goal.invariant_of-self
invariant_of-self g c =
    let number = λ (x : Face g.row.K.Denot). x.number in
    let next = λ (x : Face g.row.K.Denot). x.next in
    let change = asked_as c.args.pendings.now c.args.id c.args.interest.now in
    let s = c.self.inside in
    let faces = faces_in s.slots.items in
    let made = c.in-Ok.ensures in
    record {
      rising = made.rising;
      up_to = rw made.faces (up-to-changed next number c.args.number s.highest_next change (λ f. refl) faces c.self.invariant.up_to);
      routers = rw made.faces (changed c.args.number change (λ f. refl) (λ f. record { region = refl; zid = refl }) s.routers.keys faces c.self.invariant.routers);
      asked = made.asked;
      timed = rw made.faces (timed-changed c.args.number change (λ f. refl) (λ f since id here. here) s.times.rows.keys faces c.self.invariant.timed);
    }
