use Rattle.std.proofs.Common.{◌++◌, Bool, List, Option, OnOk, ap, subst, sym, ◌∙◌}
use Rattle.std.specs.Option.{option_copied}
use Rattle.zt_calls.specs.Does.{Does}
use Rattle.zt_model.specs.Parts.{Part}
use Rattle.zt_calls.proofs.Doing.{does-nothing}
use Rattle.zt_calls.proofs.PartsOf.{declare_at_face, declare_nobody, declare_plain_at, declare_routed_at}
use Rattle.zt_calls.specs.Speaking.{answering_asked, declaring_from, declaring_if}
use Rattle.zt_model.specs.Telling.{registers}
use Rattle.zt_region.specs.declared.region.Region.{Region}
use Rattle.zt_region.specs.declared.region.Zid.{Zid}
use Rattle.zt_calls.proofs.speaking.declare_token.Goals as goal

pub returns-in_default : goal.returns-in_default
returns-in_default g c =
    let none = sym c.find_face.ensures ∙ ap option_copied c.in_default.is in
    subst (λ (parts : List (Part g.row.K.Denot)). Does g.K.Ord.cmp g.K.Key.matching parts c.args.g.now c.args.g.now c.args.speech.now c.args.speech.now) (sym (declare_nobody g.K.Ord.cmp g.K.Key.matching c.args.face c.args.id c.args.node_id c.args.expr.now c.args.interest c.args.g.now none))
    (does-nothing g.K.Ord.cmp g.K.Key.matching c.args.g.now c.args.speech.now)

pub returns-then-is_routed : goal.returns-then-is_routed
returns-then-is_routed g c =
    let cmp = g.K.Ord.cmp in
    let matching = g.K.Key.matching in
    let n = c.args.face in
    let id = c.args.id in
    let node = c.args.node_id in
    let e = c.args.expr.now in
    let i = c.args.interest in
    let rows = c.args.g.now in
    let f = c.in-Some.f.now in
    let is = sym c.find_face.ensures ∙ ap option_copied c.in-Some.is in
    let routed = sym c.is_routed.ensures ∙ c.if-is_routed.true in
    let comes = λ (parts : List (Part g.row.K.Denot)). OnOk c.declare_from.result (Does cmp matching parts rows c.declare_from.new.g c.args.speech.now c.declare_from.new.speech) in
    let at_region = subst (λ (r : Region). comes (declaring_from cmp matching n r c.source_of-source.result e)) c.region-region.ensures c.declare_from.ensures in
    let at_source = subst (λ (source : Option Zid). comes (declaring_from cmp matching n f.region source e)) c.source_of-source.ensures at_region in
    subst comes (sym (declare_at_face cmp matching n id node e i rows f is ∙ declare_routed_at cmp matching n id node e i rows f routed)) at_source

pub returns : goal.returns
returns g c =
    let cmp = g.K.Ord.cmp in
    let matching = g.K.Key.matching in
    let n = c.args.face in
    let id = c.args.id in
    let node = c.args.node_id in
    let e = c.args.expr.now in
    let i = c.args.interest in
    let rows = c.args.g.now in
    let f = c.in-Some.f.now in
    let is = sym c.find_face.ensures ∙ ap option_copied c.in-Some.is in
    let plain = sym c.is_routed.ensures ∙ c.if-is_routed.false in
    let comes = λ (parts : List (Part g.row.K.Denot)). OnOk c.declare_plain.result (Does cmp matching parts rows c.declare_plain.new.g c.args.speech.now c.declare_plain.new.speech) in
    let at_region = subst (λ (r : Region). comes (answering_asked cmp matching n c.asked_by-asked.result e ++ declaring_if cmp matching c.registers-registers.result n r id e)) c.region-region.ensures c.declare_plain.ensures in
    let at_registers = subst (λ (b : Bool). comes (answering_asked cmp matching n c.asked_by-asked.result e ++ declaring_if cmp matching b n f.region id e)) c.registers-registers.ensures at_region in
    let at_asked = subst (λ (parts : List (Part g.row.K.Denot)). comes (parts ++ declaring_if cmp matching (registers f i) n f.region id e)) (c.asked_by-asked.ensures n e) at_registers in
    subst comes (sym (declare_at_face cmp matching n id node e i rows f is ∙ declare_plain_at cmp matching n id node e i rows f plain)) at_asked
