use Rattle.zt_check_open_faces.proofs.Opening.{open_changed}
use Rattle.zt_check_open_faces.proofs.Listing.{listed_changed, owed_by_rows}
use Rattle.zt_check_open_faces.proofs.faces.ShownFaces.change.Goals as goal

pub invariant_of-self : goal.invariant_of-self
invariant_of-self g c = (
  open_changed g.K.Ord.cmp c.self.inside.made (g.C.Change.changed c.args.change.now) c.self.inside.declared c.self.inside.told c.self.inside.faces.items c.change_in.new.faces.items c.requires.rows c.in-Ok.ensures c.self.invariant.0,
  listed_changed (g.C.Change.changed c.args.change.now) c.self.inside.owing c.self.inside.faces.items c.change_in.new.faces.items c.requires.rows.number (owed_by_rows (g.C.Change.changed c.args.change.now) c.requires.rows) c.in-Ok.ensures c.self.invariant.1,
)
