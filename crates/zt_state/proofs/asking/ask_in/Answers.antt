use Rattle.std.proofs.Common.{◌≡◌, ◌==◌, if◌then◌else◌, map, subst, sym}
use Rattle.std.proofs.lemmas.Result.{on_ok_weaker}
use Rattle.zt_model.specs.Routing.{asked_as}
use Rattle.zt_model.specs.Rows.{Face}
use Rattle.zt_token_index.specs.Seekers.{AreSeekers}
use Rattle.zt_state.proofs.Recounted.{not-found}
use Rattle.zt_faces.proofs.Rising.{none-changed}
use Rattle.zt_state.proofs.Sought.{sought-changed}
use Rattle.zt_state.proofs.asking.ask_in.Goals as goal

pub returns-in_default-clause-faces : goal.returns-in_default-clause-faces
returns-in_default-clause-faces g c =
    let number = λ (x : Face g.row.K.Denot). x.number in
    sym (none-changed number c.args.face (asked_as c.args.pendings.now c.args.id c.args.interest.now) c.args.faces.now (not-found number c.args.face c.args.faces.now (sym c.in_default.ensures.found)))

pub returns-clause-seekers : goal.returns-clause-seekers
returns-clause-seekers g c =
    let change = asked_as c.args.pendings.now c.args.id c.args.interest.now in
    let fs = c.args.faces.now in
    on_ok_weaker c.ask.result
    (λ (made : c.ask.new.self ≡ map (λ (x : Face g.row.K.Denot). if c.args.face == x.number then change x else x) fs).
    subst (AreSeekers g.K.Ord.cmp g.K.Key.anchored c.hold.new.self) (sym made)
    (sought-changed g.K.Ord.cmp g.K.Key.anchored c.args.face c.in-Some.f.now fs c.in-Some.ensures.rising (sym c.in-Some.ensures.found) c.args.seekers.now c.hold.new.self c.requires change (c.in_ok-hold.ensures c.args.pendings.now)))
    c.ask.ensures.ok
