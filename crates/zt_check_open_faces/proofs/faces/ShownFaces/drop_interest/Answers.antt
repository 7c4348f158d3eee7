use Rattle.std.proofs.Common.{◌≡◌}
use Rattle.zt_model.specs.Shown.{without_held}
use Rattle.zt_check_faces.specs.Faces.{if_number}
use Rattle.zt_check_open_faces.proofs.Opening.{open_same}
use Rattle.zt_check_open_faces.proofs.Listing.{listed_changed, live_unheld, number_unheld, owed_unheld, told_unheld}
use Rattle.zt_check_open_faces.proofs.faces.ShownFaces.drop_interest.Goals as goal

pub invariant_of-self : goal.invariant_of-self
invariant_of-self g c =
    let n = c.args.number in
    let id = c.args.id in (
      open_same g.K.Ord.cmp c.self.inside.made (if_number n (without_held id)) c.self.inside.declared c.self.inside.told c.self.inside.faces.items c.change_in.new.faces.items (number_unheld n id) (live_unheld n id) (told_unheld n id) c.in-Ok.ensures c.self.invariant.0,
      listed_changed (if_number n (without_held id)) c.self.inside.owing c.self.inside.faces.items c.change_in.new.faces.items (number_unheld n id) (owed_unheld n id) c.in-Ok.ensures c.self.invariant.1,
    )
