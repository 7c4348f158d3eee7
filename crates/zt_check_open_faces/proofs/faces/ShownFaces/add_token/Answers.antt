use Rattle.zt_check_open_faces.proofs.Opening.{open_put}
use Rattle.zt_model.specs.Shown.{with_token}
use Rattle.zt_check_faces.specs.Faces.{if_number}
use Rattle.zt_check_open_faces.proofs.Declaring.{number_put}
use Rattle.zt_check_open_faces.proofs.Listing.{listed_changed, owed_put}
use Rattle.zt_check_open_faces.proofs.faces.ShownFaces.add_token.Goals as goal

pub invariant_of-self : goal.invariant_of-self
invariant_of-self g c = (
  open_put g.K.Ord.cmp g.met.K.Key.laws.equal_is_same c.self.inside.made c.args.number c.args.id c.args.expr.now c.self.inside.declared c.forget_token.new.declared c.put_token.new.declared c.self.inside.told c.self.inside.faces.items c.put_token.new.faces.items c.forget_token.ensures c.in-Ok.ensures.kept c.in-Ok.ensures.hinted c.in-Ok.ensures.put c.self.invariant.0,
  listed_changed (if_number c.args.number (with_token c.args.id c.args.expr.now)) c.self.inside.owing c.self.inside.faces.items c.put_token.new.faces.items (number_put c.args.number c.args.id c.args.expr.now) (owed_put c.args.number c.args.id c.args.expr.now) c.in-Ok.ensures.put c.self.invariant.1,
)
