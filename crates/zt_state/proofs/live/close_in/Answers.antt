use Rattle.std.proofs.Common.{sym}
use Rattle.zt_model.specs.Rows.{Face}
use Rattle.zt_state.proofs.Recounted.{face-gone, not-found}
use Rattle.zt_faces.proofs.Rising.{none-dropped}
use Rattle.zt_state.proofs.Sought.{sought-closed}
use Rattle.zt_state.proofs.live.close_in.Goals as goal

pub returns-in_default-clause-faces : goal.returns-in_default-clause-faces
returns-in_default-clause-faces g c =
    let number = λ (x : Face g.row.K.Denot). x.number in
    sym (none-dropped number c.args.face c.args.faces.now (not-found number c.args.face c.args.faces.now (sym c.in_default.ensures.found)))

pub returns-clause-counts : goal.returns-clause-counts
returns-clause-counts g c =
    rw c.remove.ensures
    (face-gone g.K.Ord.cmp c.args.face c.in-Some.f.now c.args.faces.now c.in-Some.ensures.rising (sym c.in-Some.ensures.found) c.args.live.now c.uncount_all.new.live c.uncount_all.ensures)

pub returns-clause-seekers : goal.returns-clause-seekers
returns-clause-seekers g c =
    rw c.remove.ensures
    (sought-closed g.K.Ord.cmp g.K.Key.anchored c.args.face c.in-Some.f.now c.args.faces.now c.in-Some.ensures.rising (sym c.in-Some.ensures.found) c.args.seekers.now c.close.new.self c.requires c.close.ensures)
