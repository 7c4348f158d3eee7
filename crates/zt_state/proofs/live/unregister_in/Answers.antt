use Rattle.std.proofs.Common.{◌==◌, sym}
use Rattle.zt_model.specs.Rows.{Face}
use Rattle.zt_model.specs.Telling.{unregistered}
use Rattle.zt_state.specs.Indexed.{HasLiveInOrder}
use Rattle.zt_state.proofs.Recounted.{all-found, face-recounted, not-found}
use Rattle.zt_faces.proofs.Rising.{none-changed}
use Rattle.zt_state.proofs.live.unregister_in.Goals as goal

pub returns-in_default-clause-faces : goal.returns-in_default-clause-faces
returns-in_default-clause-faces g c =
    let number = λ (x : Face g.row.K.Denot). x.number in
    sym (none-changed number c.args.face (unregistered c.args.id) c.args.faces.now (not-found number c.args.face c.args.faces.now (sym c.in_default.ensures.found)))

pub uncount-requires : goal.uncount-requires
uncount-requires g c = all-found HasLiveInOrder (λ x. c.args.face == x.number) c.args.faces.now c.in-Some.f.now c.requires (sym c.in-Some.ensures.found)

pub returns-clause-counts : goal.returns-clause-counts
returns-clause-counts g c =
    rw c.change.ensures
    (face-recounted g.K.Ord.cmp c.args.face c.in-Some.f.now c.args.faces.now c.in-Some.ensures.rising (sym c.in-Some.ensures.found) c.args.live.now c.uncount.new.live (unregistered c.args.id) c.uncount.ensures)
