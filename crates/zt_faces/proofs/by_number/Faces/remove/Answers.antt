use Rattle.std.proofs.Common.{◌==◌, ◌≤◌, not}
use Rattle.zt_model.specs.Rows.{Face}
use Rattle.zt_faces.specs.Asked.{AreKnown, asked_in}
use Rattle.zt_faces.specs.Slots.{faces_in}
use Rattle.zt_faces.proofs.Rising.{filtered-all}
use Rattle.zt_faces.proofs.Times.{timed-filtered}
use Rattle.zt_faces.proofs.by_number.Faces.remove.Goals as goal

pub invariant_of-self : goal.invariant_of-self
invariant_of-self g c =
    let number = λ (x : Face g.row.K.Denot). x.number in
    let s = c.self.inside in
    let faces = faces_in s.slots.items in
    let stays = λ (x : Face g.row.K.Denot). not (c.args.number == x.number) in
    let made = c.remove_in.ensures in
    record {
      rising = made.rising;
      up_to = rw made.faces (filtered-all number (λ x. x.next ≤ s.highest_next) stays faces c.self.invariant.up_to);
      routers = made.standings;
      asked = rw made.faces (filtered-all number (λ x. AreKnown (asked_in s.askers.rows) x.number x.asks) stays faces c.self.invariant.asked);
      timed = rw made.faces (timed-filtered stays s.times.rows.keys faces c.self.invariant.timed);
    }
