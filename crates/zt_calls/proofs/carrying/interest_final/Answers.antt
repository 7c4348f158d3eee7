use Rattle.std.proofs.Common.{List, OnOk, ap, subst, sym, ◌∙◌}
use Rattle.std.specs.Option.{option_copied}
use Rattle.zt_calls.specs.Does.{Does}
use Rattle.zt_model.specs.Parts.{Part}
use Rattle.zt_calls.proofs.Doing.{does-nothing}
use Rattle.zt_calls.proofs.PartsOf.{interest_final_at_face, interest_final_nobody, nobody, somebody}
use Rattle.zt_model.specs.Lists.{at_id}
use Rattle.zt_model.specs.Routing.{finalising}
use Rattle.zt_model.specs.Rows.{InterestRow}
use Rattle.zt_calls.proofs.carrying.interest_final.Goals as goal

pub returns-in_default : goal.returns-in_default
returns-in_default g c =
    let none = sym c.find_face.ensures ∙ ap option_copied c.in_default.is in
    subst (λ (parts : List (Part g.row.K.Denot)). Does g.K.Ord.cmp g.K.Key.matching parts c.args.g.now c.args.g.now c.args.speech.now c.args.speech.now) (sym (interest_final_nobody g.K.Ord.cmp g.K.Key.matching c.args.face c.args.id c.args.g.now none))
    (does-nothing g.K.Ord.cmp g.K.Key.matching c.args.g.now c.args.speech.now)

pub returns-in_default-at : goal.returns-in_default-at
returns-in_default-at g c =
    let cmp = g.K.Ord.cmp in
    let matching = g.K.Key.matching in
    let n = c.args.face in
    let id = c.args.id in
    let f = c.in-Some.f.now in
    let is = sym c.find_face.ensures ∙ ap option_copied c.in-Some.is in
    let none = sym (c.at.ensures.row ∙ ap (at_id id) c.held.ensures) ∙ ap option_copied c.in_default-at.is in
    let parts = interest_final_at_face cmp matching n id c.args.g.now f is ∙ nobody (λ (interest : InterestRow g.row.K.Denot). finalising cmp matching n id interest) (at_id id f.held) none in
    subst (λ (ps : List (Part g.row.K.Denot)). Does cmp matching ps c.args.g.now c.args.g.now c.args.speech.now c.args.speech.now) (sym parts)
    (does-nothing cmp matching c.args.g.now c.args.speech.now)

pub returns : goal.returns
returns g c =
    let cmp = g.K.Ord.cmp in
    let matching = g.K.Key.matching in
    let n = c.args.face in
    let id = c.args.id in
    let f = c.in-Some.f.now in
    let r = c.finalise.result in
    let is = sym c.find_face.ensures ∙ ap option_copied c.in-Some.is in
    let held = sym (c.at.ensures.row ∙ ap (at_id id) c.held.ensures) ∙ ap option_copied c.in-Some-at.is in
    let done = subst (λ (interest : InterestRow g.row.K.Denot). OnOk r (Does cmp matching (finalising cmp matching n id interest) c.args.g.now c.finalise.new.g c.args.speech.now c.finalise.new.speech)) c.in_ok-interest.ensures c.finalise.ensures in
    let parts = interest_final_at_face cmp matching n id c.args.g.now f is ∙ somebody (λ (interest : InterestRow g.row.K.Denot). finalising cmp matching n id interest) (at_id id f.held) c.in-Some-at.held.now held in
    subst (λ (ps : List (Part g.row.K.Denot)). OnOk r (Does cmp matching ps c.args.g.now c.finalise.new.g c.args.speech.now c.finalise.new.speech)) (sym parts) done
