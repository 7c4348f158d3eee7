use Rattle.zt_check_open_faces.proofs.Opening.{open_dropped}
use Rattle.zt_model.specs.Shown.{without_token}
use Rattle.zt_check_faces.specs.Faces.{if_number}
use Rattle.zt_check_open_faces.proofs.Declaring.{number_dropped}
use Rattle.zt_check_open_faces.proofs.Listing.{listed_changed, owed_dropped}
use Rattle.zt_check_open_faces.proofs.faces.ShownFaces.drop_token.Goals as goal

pub invariant_of-self : goal.invariant_of-self
invariant_of-self g c = (
  open_dropped g.K.Ord.cmp c.self.inside.made c.args.number c.args.id c.self.inside.declared c.forget_token.new.declared c.self.inside.told c.self.inside.faces.items c.change_in.new.faces.items c.forget_token.ensures c.in-Ok.ensures c.self.invariant.0,
  listed_changed (if_number c.args.number (without_token c.args.id)) c.self.inside.owing c.self.inside.faces.items c.change_in.new.faces.items (number_dropped c.args.number c.args.id) (owed_dropped c.args.number c.args.id) c.in-Ok.ensures c.self.invariant.1,
)
