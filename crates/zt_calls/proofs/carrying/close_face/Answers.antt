use Rattle.std.proofs.Common.{Bool, List, OnOk, ap, subst, sym, ◌∙◌}
use Rattle.std.specs.Option.{option_copied}
use Rattle.zt_calls.specs.Does.{Does}
use Rattle.zt_model.specs.Parts.{Part, is_routed}
use Rattle.std.proofs.Common.{ℕ}
use Rattle.zt_calls.proofs.Doing.{does-nothing}
use Rattle.zt_calls.proofs.PartsOf.{close_at_face, close_nobody, found_number}
use Rattle.zt_calls.specs.Speaking.{closing_if}
use Rattle.zt_model.specs.Rows.{Face}
use Rattle.zt_calls.proofs.carrying.close_face.Goals as goal

pub returns-in_default : goal.returns-in_default
returns-in_default g c =
    let none = sym c.find_face.ensures ∙ ap option_copied c.in_default.is in
    subst (λ (parts : List (Part g.row.K.Denot)). Does g.K.Ord.cmp g.K.Key.matching parts c.args.g.now c.args.g.now c.args.speech.now c.args.speech.now) (sym (close_nobody g.K.Ord.cmp g.K.Key.matching c.args.face c.args.g.now none))
    (does-nothing g.K.Ord.cmp g.K.Key.matching c.args.g.now c.args.speech.now)

pub returns : goal.returns
returns g c =
    let cmp = g.K.Ord.cmp in
    let matching = g.K.Key.matching in
    let n = c.args.face in
    let rows = c.args.g.now in
    let f = c.in-Some.f.now in
    let r = c.close_open.result in
    let is = sym c.find_face.ensures ∙ ap option_copied c.in-Some.is in
    let comes = λ (parts : List (Part g.row.K.Denot)). OnOk r (Does cmp matching parts rows c.close_open.new.g c.args.speech.now c.close_open.new.speech) in
    let at_copy = subst (λ (x : Face g.row.K.Denot). comes (closing_if cmp matching c.is_routed-is_routed.result x.number x)) c.in_ok-f.ensures c.close_open.ensures in
    let at_test = subst (λ (b : Bool). comes (closing_if cmp matching b f.number f)) c.is_routed-is_routed.ensures at_copy in
    let at_number = subst (λ (k : ℕ). comes (closing_if cmp matching (is_routed rows f) k f)) (found_number n rows f is) at_test in
    subst comes (sym (close_at_face cmp matching n rows f is)) at_number
