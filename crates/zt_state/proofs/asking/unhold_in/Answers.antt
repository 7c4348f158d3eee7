use Rattle.std.proofs.Common.{sym}
use Rattle.zt_model.specs.Routing.{unheld}
use Rattle.zt_model.specs.Rows.{Face}
use Rattle.zt_state.proofs.Recounted.{not-found}
use Rattle.zt_faces.proofs.Rising.{none-changed}
use Rattle.zt_state.proofs.Sought.{sought-changed}
use Rattle.zt_state.proofs.asking.unhold_in.Goals as goal

pub returns-in_default-clause-faces : goal.returns-in_default-clause-faces
returns-in_default-clause-faces g c =
    let number = λ (x : Face g.row.K.Denot). x.number in
    sym (none-changed number c.args.face (unheld c.args.id) c.args.faces.now (not-found number c.args.face c.args.faces.now (sym c.in_default.ensures.found)))

pub returns-clause-seekers : goal.returns-clause-seekers
returns-clause-seekers g c =
    rw c.change.ensures
    (sought-changed g.K.Ord.cmp g.K.Key.anchored c.args.face c.in-Some.f.now c.args.faces.now c.in-Some.ensures.rising (sym c.in-Some.ensures.found) c.args.seekers.now c.unhold.new.self c.requires (unheld c.args.id) c.unhold.ensures)
