use Rattle.std.proofs.Common.{◌≡◌, not, is_some, IfOk, option_map, string_bytes, sym, subst, ap, ◌∙◌}
use Rattle.std.proofs.lemmas.Result.{IfOk-weaker}
use Rattle.zt_region.specs.South.{plain_south}
use Rattle.zt_protocol.specs.Plain.{plain_call, plain_line, trees_of}
use Rattle.zt_protocol.specs.declared.errors.Refusal.TheVariants as refusal
use Rattle.zt_model.specs.Fabric.{call_face, call_of, is_full, is_linked_face, is_open_link, is_unknown_gateway}
use Rattle.zt_model.specs.Linking.{oldest}
use Rattle.zt_model.specs.Lists.{is_some_and, nth}
use Rattle.zt_links.specs.Lines.{cause_at, cause_if, cause_of_line, made_at, or_cause}
use Rattle.zt_links.proofs.Refusing.{decided, face_cause, gateway_cause, moment_cause, session_cause, speak_cause, step_cause, trees_cause}
use Rattle.zt_links.proofs.deciding.cause_of_line.Goals as goal

pub returns-in-Gateway : goal.returns-in-Gateway
returns-in-Gateway g c =
    let x = c.in-Gateway in
    (rw c.as_slice.ensures.value at c.gateway_cause.ensures)
    ∙ sym (gateway_cause g.K.Ord.cmp g.K.Key.matching x.mode x.zid x.regions.items (plain_south x.south) (option_map string_bytes x.name) x.timeout x.refuse.refused.items c.args.s.now)
    ∙ ap (λ line. cause_of_line g.K.Ord.cmp g.K.Key.matching (plain_line line) c.args.s.now) (sym x.is)

pub returns-in-Session : goal.returns-in-Session
returns-in-Session g c =
    let x = c.in-Session in
    c.session_cause.ensures
    ∙ sym (session_cause g.K.Ord.cmp g.K.Key.matching x.gateway x.first c.args.s.now)
    ∙ ap (λ line. cause_of_line g.K.Ord.cmp g.K.Key.matching (plain_line line) c.args.s.now) (sym x.is)

pub returns-in-Face : goal.returns-in-Face
returns-in-Face g c =
    let cmp = g.K.Ord.cmp in
    let matching = g.K.Key.matching in
    let s = c.args.s.now in
    let x = c.in-Face in
    let lemma_ = face_cause cmp matching x.gateway x.mode x.zid x.region x.bound x.first s in
    subst (λ line. made_at s c.args.made.now ≡ call_of (plain_line line) s → IfOk c.face_cause.result (λ cause. cause ≡ cause_of_line cmp matching (plain_line line) s)) (sym x.is)
    (λ is. IfOk-weaker c.face_cause.result _ _ (λ cause of_call. of_call ∙ decided cmp matching (λ at. or_cause (cause_if (is_unknown_gateway s x.gateway) refusal.UnknownGateway) (or_cause (cause_at cmp matching at) (cause_if (is_full s.faces) refusal.NumbersSpent))) _ s (made_at s c.args.made.now) is lemma_) c.face_cause.ensures)
    c.requires.call

pub returns-in-Step : goal.returns-in-Step
returns-in-Step g c =
    let cmp = g.K.Ord.cmp in
    let matching = g.K.Key.matching in
    let s = c.args.s.now in
    let x = c.in-Step in
    let lemma_ = step_cause cmp matching x.link x.back s in
    subst (λ line. made_at s c.args.made.now ≡ call_of (plain_line line) s → IfOk c.step_cause.result (λ cause. cause ≡ cause_of_line cmp matching (plain_line line) s)) (sym x.is)
    (λ is. IfOk-weaker c.step_cause.result _ _ (λ cause of_call. of_call ∙ decided cmp matching (λ at. or_cause (cause_if (not (is_open_link s x.link)) refusal.UnknownLink) (or_cause (cause_if (not (is_some_and (nth x.link s.links) (λ l. is_some (oldest s l x.back)))) refusal.EmptyLink) (cause_at cmp matching at))) _ s (made_at s c.args.made.now) is lemma_) c.step_cause.ensures)
    c.requires.call

pub returns-in-Speak : goal.returns-in-Speak
returns-in-Speak g c =
    let cmp = g.K.Ord.cmp in
    let matching = g.K.Key.matching in
    let s = c.args.s.now in
    let x = c.in-Speak in
    let lemma_ = speak_cause cmp matching (plain_call x.call) s in
    subst (λ line. made_at s c.args.made.now ≡ call_of (plain_line line) s → IfOk c.speak_cause.result (λ cause. cause ≡ cause_of_line cmp matching (plain_line line) s)) (sym x.is)
    (λ is. IfOk-weaker c.speak_cause.result _ _ (λ cause of_call. of_call ∙ decided cmp matching (λ at. or_cause (cause_if (not (is_some at)) refusal.UnknownFace) (or_cause (cause_if (is_linked_face s (call_face (plain_call x.call))) refusal.LinkedFace) (cause_at cmp matching at))) _ s (made_at s c.args.made.now) is lemma_) c.speak_cause.ensures)
    c.requires.call

pub returns-in-Moment : goal.returns-in-Moment
returns-in-Moment g c =
    let cmp = g.K.Ord.cmp in
    let matching = g.K.Key.matching in
    let s = c.args.s.now in
    let x = c.in-Moment in
    let lemma_ = moment_cause cmp matching x.gateway x.now s in
    subst (λ line. made_at s c.args.made.now ≡ call_of (plain_line line) s → IfOk c.cause_at_gateway.result (λ cause. cause ≡ cause_of_line cmp matching (plain_line line) s)) (sym x.is)
    (λ is. IfOk-weaker c.cause_at_gateway.result _ _ (λ cause of_call. of_call ∙ decided cmp matching (λ at. or_cause (cause_if (is_unknown_gateway s x.gateway) refusal.UnknownGateway) (cause_at cmp matching at)) _ s (made_at s c.args.made.now) is lemma_) c.cause_at_gateway.ensures)
    c.requires.call

pub returns-in-Trees : goal.returns-in-Trees
returns-in-Trees g c =
    let cmp = g.K.Ord.cmp in
    let matching = g.K.Key.matching in
    let s = c.args.s.now in
    let x = c.in-Trees in
    let lemma_ = trees_cause cmp matching x.gateway x.region (trees_of x.table) s in
    subst (λ line. made_at s c.args.made.now ≡ call_of (plain_line line) s → IfOk c.cause_at_gateway-in-Trees.result (λ cause. cause ≡ cause_of_line cmp matching (plain_line line) s)) (sym x.is)
    (λ is. IfOk-weaker c.cause_at_gateway-in-Trees.result _ _ (λ cause of_call. of_call ∙ decided cmp matching (λ at. or_cause (cause_if (is_unknown_gateway s x.gateway) refusal.UnknownGateway) (cause_at cmp matching at)) _ s (made_at s c.args.made.now) is lemma_) c.cause_at_gateway-in-Trees.ensures)
    c.requires.call
