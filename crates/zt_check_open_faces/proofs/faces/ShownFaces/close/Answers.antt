use Rattle.zt_check_open_faces.proofs.Opening.{open_closed}
use Rattle.zt_check_open_faces.proofs.Listing.{listed_closed}
use Rattle.zt_check_open_faces.proofs.faces.ShownFaces.close.Goals as goal

pub invariant_of-self : goal.invariant_of-self
invariant_of-self g c = (
  open_closed g.K.Ord.cmp c.self.inside.made c.args.number c.self.inside.declared c.forget_face.new.declared c.self.inside.told c.forget_told.new.told c.self.inside.faces.items c.close_in.new.faces.items c.forget_face.ensures c.forget_told.ensures c.close_in.ensures c.self.invariant.0,
  listed_closed c.args.number c.self.inside.owing c.drop_alike.new.self c.self.inside.faces.items c.close_in.new.faces.items c.drop_alike.ensures c.close_in.ensures c.self.invariant.1,
)
