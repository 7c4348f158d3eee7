use Rattle.std.proofs.Common.{ap, ◌∙◌}
use Rattle.zt_model.specs.Rows.{Face}
use Rattle.zt_faces.specs.Slots.{faces_in, number_of}
use Rattle.zt_faces.specs.declared.slots.Slot.TheVariants.{Open}
use Rattle.zt_faces.proofs.Gaps.{behind-rising, pushed-in}
use Rattle.zt_faces.proofs.Highest.{up-to-pushed}
use Rattle.zt_faces.proofs.Known.{asked-more, asked-pushed}
use Rattle.zt_faces.proofs.Routers.{pushed}
use Rattle.zt_faces.proofs.Times.{timed-more, timed-pushed}
use Rattle.zt_faces.proofs.by_number.Faces.push.Goals as goal

pub invariant_of-self-2 : goal.invariant_of-self-2
invariant_of-self-2 g c =
    let next = λ (x : Face g.row.K.Denot). x.next in
    let s = c.self.inside in
    let faces = faces_in s.slots.items in
    let made = c.in_ok-push_in.ensures in
    rw (made.slots, c.max-self-inside.ensures, c.next-next.ensures) (record {
      rising = behind-rising number_of s.slots.items (Open c.args.face) made.below c.self.invariant.rising;
      up_to = rw (pushed-in s.slots.items c.args.face) (up-to-pushed next s.highest_next faces c.args.face c.self.invariant.up_to);
      routers = rw (pushed-in s.slots.items c.args.face) (pushed s.routers.keys c.push_in.new.routers.keys faces c.args.face c.self.invariant.routers made.more);
      asked = rw (pushed-in s.slots.items c.args.face) (asked-pushed _ faces c.args.face (asked-more _ _ c.note_face.ensures.kept faces c.self.invariant.asked) c.in_ok-note_face.ensures.here);
      timed = rw (pushed-in s.slots.items c.args.face) (timed-pushed _ faces c.args.face (timed-more _ _ c.time_face.ensures.kept faces c.self.invariant.timed) c.in_ok-time_face.ensures.here);
    })

pub invariant_of-self : goal.invariant_of-self
invariant_of-self g c =
    let s = c.self.inside in
    record {
      rising = c.self.invariant.rising;
      up_to = c.self.invariant.up_to;
      routers = c.self.invariant.routers;
      asked = asked-more _ _ c.note_face.ensures.kept (faces_in s.slots.items) c.self.invariant.asked;
      timed = c.self.invariant.timed;
    }

pub invariant_of-self-in_err-time_face : goal.invariant_of-self-in_err-time_face
invariant_of-self-in_err-time_face g c =
    let s = c.self.inside in
    record {
      rising = c.self.invariant.rising;
      up_to = c.self.invariant.up_to;
      routers = c.self.invariant.routers;
      asked = asked-more _ _ c.note_face.ensures.kept (faces_in s.slots.items) c.self.invariant.asked;
      timed = timed-more _ _ c.time_face.ensures.kept (faces_in s.slots.items) c.self.invariant.timed;
    }

pub invariant_of-self-in_err-push_in : goal.invariant_of-self-in_err-push_in
invariant_of-self-in_err-push_in g c =
    let s = c.self.inside in
    rw (c.in_err-push_in.ensures.err, c.in_err-push_in.ensures.unchanged) (record {
      rising = c.self.invariant.rising;
      up_to = c.self.invariant.up_to;
      routers = c.self.invariant.routers;
      asked = asked-more _ _ c.note_face.ensures.kept (faces_in s.slots.items) c.self.invariant.asked;
      timed = timed-more _ _ c.time_face.ensures.kept (faces_in s.slots.items) c.self.invariant.timed;
    })

pub returns-clause-ok : goal.returns-clause-ok
returns-clause-ok g c =
    let s = c.self.inside in
    rw (← c.self.view_is) (ap faces_in c.in_ok-push_in.ensures.slots ∙ pushed-in s.slots.items c.args.face)
