use Rattle.std.proofs.Common.{List, OnOk, ap, subst, sym, ◌∙◌}
use Rattle.std.specs.Option.{option_copied}
use Rattle.zt_calls.specs.Does.{Does}
use Rattle.zt_model.specs.Parts.{Part}
use Rattle.zt_calls.proofs.Doing.{does-nothing}
use Rattle.zt_calls.proofs.PartsOf.{interest_at_face, interest_nobody}
use Rattle.zt_model.specs.Rows.{InterestRow}
use Rattle.zt_model.specs.Says.{asking}
use Rattle.zt_region.specs.declared.region.Region.{Region}
use Rattle.zt_calls.proofs.carrying.interest.Goals as goal

pub returns-in_default : goal.returns-in_default
returns-in_default g c =
    let none = sym c.find_face.ensures ∙ ap option_copied c.in_default.is in
    subst (λ (parts : List (Part g.row.K.Denot)). Does g.K.Ord.cmp g.K.Key.matching parts c.args.g.now c.args.g.now c.args.speech.now c.args.speech.now) (sym (interest_nobody g.K.Ord.cmp g.K.Key.matching c.args.face c.args.id c.args.mode c.args.options c.args.expr.now c.args.g.now none))
    (does-nothing g.K.Ord.cmp g.K.Key.matching c.args.g.now c.args.speech.now)

pub returns : goal.returns
returns g c =
    let cmp = g.K.Ord.cmp in
    let matching = g.K.Key.matching in
    let rows = c.args.g.now in
    let f = c.in-Some.f.now in
    let is = sym c.find_face.ensures ∙ ap option_copied c.in-Some.is in
    let n = c.args.face in
    let id = c.args.id in
    let r = c.ask.result in
    let done =
    subst (λ (interest : InterestRow g.row.K.Denot). OnOk r (Does cmp matching (asking cmp matching n id interest f.region rows) rows c.ask.new.g c.args.speech.now c.ask.new.speech)) c.in_ok-interest.ensures
    (subst (λ (region : Region). OnOk r (Does cmp matching (asking cmp matching n id c.in_ok-interest.interest region rows) rows c.ask.new.g c.args.speech.now c.ask.new.speech)) c.region-asker.ensures c.ask.ensures) in
    subst (λ (parts : List (Part g.row.K.Denot)). OnOk r (Does cmp matching parts rows c.ask.new.g c.args.speech.now c.ask.new.speech)) (sym (interest_at_face cmp matching n id c.args.mode c.args.options c.args.expr.now rows f is)) done
