use Rattle.std.proofs.Common.{◌≡◌, ◌==◌, if◌then◌else◌, map, subst, sym, ◌∙◌}
use Rattle.std.proofs.lemmas.Result.{on_ok_weaker}
use Rattle.zt_face.specs.Told.{heard_known}
use Rattle.zt_model.specs.Hearing.{heard}
use Rattle.zt_model.specs.Rows.{Face}
use Rattle.zt_token_index.specs.Seekers.{AreSeekers}
use Rattle.zt_state.proofs.Recounted.{not-found}
use Rattle.zt_faces.proofs.Rising.{none-changed}
use Rattle.zt_state.proofs.Sought.{known-heard, sought-changed}
use Rattle.zt_state.proofs.hearing.hear_in.Goals as goal

pub returns-in_default-clause-faces : goal.returns-in_default-clause-faces
returns-in_default-clause-faces g c =
    let number = λ (x : Face g.row.K.Denot). x.number in
    sym (none-changed number c.args.face (heard g.K.Ord.cmp c.args.moment c.args.message.now) c.args.faces.now (not-found number c.args.face c.args.faces.now (sym c.in_default.ensures.found)))

pub returns-clause-faces : goal.returns-clause-faces
returns-clause-faces g c =
    let fs = c.args.faces.now in
    let m = c.args.message.now in
    on_ok_weaker c.add.result
    (λ made.
    made
    ∙ known-heard g.K.Ord.cmp g.K.Key.anchored c.args.face c.in-Some.f.now fs c.in-Some.ensures.rising (sym c.in-Some.ensures.found) c.args.seekers.now c.hear.new.self c.requires m c.in_ok-known.known c.args.moment c.in_ok-known.ensures.known)
    c.add.ensures.ok

pub returns-clause-seekers : goal.returns-clause-seekers
returns-clause-seekers g c =
    let cmp = g.K.Ord.cmp in
    let m = c.args.message.now in
    let change = heard cmp c.args.moment m in
    let known = heard_known cmp c.args.moment m c.in_ok-known.known in
    let fs = c.args.faces.now in
    on_ok_weaker c.add.result
    (λ (made : c.add.new.self ≡ map (λ (x : Face g.row.K.Denot). if c.args.face == x.number then known x else x) fs).
    subst (AreSeekers cmp g.K.Key.anchored c.hear.new.self)
    (sym
    (made ∙ known-heard cmp g.K.Key.anchored c.args.face c.in-Some.f.now fs c.in-Some.ensures.rising (sym c.in-Some.ensures.found) c.args.seekers.now c.hear.new.self c.requires m c.in_ok-known.known c.args.moment c.in_ok-known.ensures.known))
    (sought-changed cmp g.K.Key.anchored c.args.face c.in-Some.f.now fs c.in-Some.ensures.rising (sym c.in-Some.ensures.found) c.args.seekers.now c.hear.new.self c.requires change (c.in_ok-known.ensures.seeks c.args.moment)))
    c.add.ensures.ok
