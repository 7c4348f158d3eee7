use Rattle.zt_check_open_faces.proofs.Opening.{open_heard}
use Rattle.zt_model.specs.Hearing.{heard}
use Rattle.zt_check_faces.specs.Faces.{if_number}
use Rattle.zt_check_open_faces.proofs.Telling.{number_heard}
use Rattle.zt_check_open_faces.proofs.Listing.{listed_changed, owed_heard}
use Rattle.zt_check_open_faces.proofs.faces.ShownFaces.hear.Goals as goal

pub invariant_of-self : goal.invariant_of-self
invariant_of-self g c = (
  open_heard g.K.Ord.cmp c.self.inside.made c.args.number c.args.moment c.args.message.now c.self.inside.declared c.self.inside.told c.hear_in.new.told c.self.inside.faces.items c.hear_in.new.faces.items c.in-Ok.ensures.heard c.in-Ok.ensures.told c.self.invariant.0,
  listed_changed (if_number c.args.number (heard g.K.Ord.cmp c.args.moment c.args.message.now)) c.self.inside.owing c.self.inside.faces.items c.hear_in.new.faces.items (number_heard g.K.Ord.cmp c.args.number c.args.moment c.args.message.now) (owed_heard g.K.Ord.cmp c.args.number c.args.moment c.args.message.now) c.in-Ok.ensures.heard c.self.invariant.1,
)
