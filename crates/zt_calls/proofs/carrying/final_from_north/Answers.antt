use Rattle.std.proofs.Common.{◌∷◌, [], Bool, List, OnOk, ap, if◌then◌else◌, subst, sym, ◌∙◌}
use Rattle.std.specs.Option.{option_copied}
use Rattle.zt_calls.specs.Does.{Does}
use Rattle.zt_model.specs.Parts.{Alter, Part, with_face}
use Rattle.zt_calls.proofs.Doing.{does-nothing}
use Rattle.zt_calls.proofs.PartsOf.{final_at_face, final_nobody}
use Rattle.zt_model.specs.Lists.{has_id}
use Rattle.zt_model.specs.Routing.{ending, initial_finalised}
use Rattle.zt_calls.proofs.carrying.final_from_north.Goals as goal

pub returns-in_default : goal.returns-in_default
returns-in_default g c =
    let none = sym c.find_face.ensures ∙ ap option_copied c.in_default.is in
    subst (λ (parts : List (Part g.row.K.Denot)). Does g.K.Ord.cmp g.K.Key.matching parts c.args.g.now c.args.g.now c.args.speech.now c.args.speech.now) (sym (final_nobody g.K.Ord.cmp g.K.Key.matching c.args.face c.args.id c.args.g.now none))
    (does-nothing g.K.Ord.cmp g.K.Key.matching c.args.g.now c.args.speech.now)

pub returns : goal.returns
returns g c =
    let cmp = g.K.Ord.cmp in
    let matching = g.K.Key.matching in
    let n = c.args.face in
    let id = c.args.id in
    let f = c.in-Some.f.now in
    let r = c.declare_final.result in
    let is = sym c.find_face.ensures ∙ ap option_copied c.in-Some.is in
    let done = subst (λ (waits : Bool). OnOk r (Does cmp matching (Alter (with_face n (initial_finalised id)) ∷ (if waits then ending n id else [])) c.args.g.now c.declare_final.new.g c.args.speech.now c.declare_final.new.speech)) (c.has-waits.ensures ∙ ap (has_id id) c.pendings.ensures) c.declare_final.ensures in
    subst (λ (ps : List (Part g.row.K.Denot)). OnOk r (Does cmp matching ps c.args.g.now c.declare_final.new.g c.args.speech.now c.declare_final.new.speech)) (sym (final_at_face cmp matching n id c.args.g.now f is)) done
