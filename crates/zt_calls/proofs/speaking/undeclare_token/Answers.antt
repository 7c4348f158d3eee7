use Rattle.std.proofs.Common.{List, Option, OnOk, ap, subst, sym, ◌∙◌}
use Rattle.std.specs.Option.{option_copied}
use Rattle.zt_calls.specs.Does.{Does}
use Rattle.zt_model.specs.Parts.{Part}
use Rattle.zt_calls.proofs.Doing.{does-nothing}
use Rattle.zt_calls.proofs.PartsOf.{undeclare_at_face, undeclare_nobody, undeclare_plain_at, undeclare_routed_at}
use Rattle.zt_calls.specs.Speaking.{undeclaring_from, undeclaring_plain}
use Rattle.zt_region.specs.declared.region.Region.{Region}
use Rattle.zt_region.specs.declared.region.Zid.{Zid}
use Rattle.zt_calls.proofs.speaking.undeclare_token.Goals as goal

pub returns-in_default : goal.returns-in_default
returns-in_default g c =
    let none = sym c.find_face.ensures ∙ ap option_copied c.in_default.is in
    subst (λ (parts : List (Part g.row.K.Denot)). Does g.K.Ord.cmp g.K.Key.matching parts c.args.g.now c.args.g.now c.args.speech.now c.args.speech.now) (sym (undeclare_nobody g.K.Ord.cmp g.K.Key.matching c.args.face c.args.id c.args.node_id c.args.given.now c.args.g.now none))
    (does-nothing g.K.Ord.cmp g.K.Key.matching c.args.g.now c.args.speech.now)

pub returns-then-is_routed : goal.returns-then-is_routed
returns-then-is_routed g c =
    let cmp = g.K.Ord.cmp in
    let matching = g.K.Key.matching in
    let n = c.args.face in
    let id = c.args.id in
    let node = c.args.node_id in
    let e = c.args.given.now in
    let rows = c.args.g.now in
    let f = c.in-Some.f.now in
    let is = sym c.find_face.ensures ∙ ap option_copied c.in-Some.is in
    let routed = sym c.is_routed.ensures ∙ c.if-is_routed.true in
    let comes = λ (parts : List (Part g.row.K.Denot)). OnOk c.undeclare_from.result (Does cmp matching parts rows c.undeclare_from.new.g c.args.speech.now c.undeclare_from.new.speech) in
    let at_region = subst (λ (r : Region). comes (undeclaring_from cmp matching n r c.source_of-source.result e)) c.region-region.ensures c.undeclare_from.ensures in
    let at_source = subst (λ (source : Option Zid). comes (undeclaring_from cmp matching n f.region source e)) c.source_of-source.ensures at_region in
    subst comes (sym (undeclare_at_face cmp matching n id node e rows f is ∙ undeclare_routed_at cmp matching n id node e rows f routed)) at_source

pub returns : goal.returns
returns g c =
    let cmp = g.K.Ord.cmp in
    let matching = g.K.Key.matching in
    let n = c.args.face in
    let id = c.args.id in
    let node = c.args.node_id in
    let e = c.args.given.now in
    let rows = c.args.g.now in
    let f = c.in-Some.f.now in
    let is = sym c.find_face.ensures ∙ ap option_copied c.in-Some.is in
    let plain = sym c.is_routed.ensures ∙ c.if-is_routed.false in
    let comes = λ (parts : List (Part g.row.K.Denot)). OnOk c.undeclare_plain.result (Does cmp matching parts rows c.undeclare_plain.new.g c.args.speech.now c.undeclare_plain.new.speech) in
    let at_region = subst (λ (r : Region). comes (undeclaring_plain cmp matching n r id c.in_ok-expr.expr)) c.region-region.ensures c.undeclare_plain.ensures in
    let at_expr = subst (λ (o : Option g.row.K.Denot). comes (undeclaring_plain cmp matching n f.region id o)) c.in_ok-expr.ensures at_region in
    subst comes (sym (undeclare_at_face cmp matching n id node e rows f is ∙ undeclare_plain_at cmp matching n id node e rows f plain)) at_expr
