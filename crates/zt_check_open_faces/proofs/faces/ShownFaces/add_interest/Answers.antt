use Rattle.std.proofs.Common.{◌≡◌}
use Rattle.zt_check_faces.specs.Faces.{if_number}
use Rattle.zt_check_open_faces.proofs.Opening.{open_same}
use Rattle.zt_check_open_faces.proofs.Listing.{holding, listed_held, live_held, number_held, told_held}
use Rattle.zt_check_open_faces.proofs.faces.ShownFaces.add_interest.Goals as goal

pub invariant_of-self : goal.invariant_of-self
invariant_of-self g c =
    let n = c.args.number in
    let pendings = c.args.pendings.now in
    let id = c.args.id in
    let interest = c.args.interest.now in (
      open_same g.K.Ord.cmp c.self.inside.made (if_number n (holding pendings id interest)) c.self.inside.declared c.self.inside.told c.self.inside.faces.items c.hold_in.new.faces.items (number_held n pendings id interest) (live_held n pendings id interest) (told_held n pendings id interest) c.in-Ok.ensures.held c.self.invariant.0,
      listed_held n pendings id interest c.self.inside.owing c.hold_in.new.owing c.self.inside.faces.items c.hold_in.new.faces.items c.in-Ok.ensures.kept c.in-Ok.ensures.has c.in-Ok.ensures.held c.self.invariant.1,
    )
