use Rattle.std.proofs.Common.{◌≡◌, None, Ok, IfOk, option_map, string_bytes, sym, subst, ap, ◌∙◌}
use Rattle.std.proofs.lemmas.Result.{IfOk-weaker}
use Rattle.zt_region.specs.South.{plain_south}
use Rattle.zt_protocol.specs.Plain.{plain_call, plain_line, trees_of}
use Rattle.zt_model.specs.Fabric.{call_of, fabric_after, new_rows, said_by_line, sorted_by_face, with_gateway}
use Rattle.zt_fabric_state.specs.Changes.{taken_by}
use Rattle.zt_links.specs.Lines.{cause_of_line, made_at}
use Rattle.zt_links.proofs.Accepted.{face_does, face_says, gateway_does, gateway_says, moment_does, moment_says, session_does, session_says, speak_does, speak_says, step_does, step_says, trees_does, trees_says}
use Rattle.zt_links.proofs.accepting.accept.Goals as goal

pub returns-in_ok-add_gateway-in-Gateway-clause-says : goal.returns-in_ok-add_gateway-in-Gateway-clause-says
returns-in_ok-add_gateway-in-Gateway-clause-says g c =
    let x = c.in-Gateway in
    rw c.new.ensures.items
    (gateway_says g.K.Ord.cmp g.K.Key.matching x.mode x.zid x.regions.items (plain_south x.south) (option_map string_bytes x.name) x.timeout x.refuse.refused.items c.args.s.now
    ∙ ap (λ line. sorted_by_face (said_by_line g.K.Ord.cmp g.K.Key.matching (plain_line line) c.args.s.now)) (sym x.is))

pub returns-in_ok-add_gateway-in-Gateway-clause-does : goal.returns-in_ok-add_gateway-in-Gateway-clause-does
returns-in_ok-add_gateway-in-Gateway-clause-does g c =
    let x = c.in-Gateway in
    rw c.new.ensures.items
    (c.in_ok-add_gateway-in-Gateway.ensures.ok
    ∙ ap (λ regions. with_gateway (record { rows = new_rows x.mode x.zid regions x.timeout x.refuse.refused.items; south = plain_south x.south; name = option_map string_bytes x.name }) c.args.s.now) c.as_slice.ensures.value
    ∙ gateway_does g.K.Ord.cmp g.K.Key.matching x.mode x.zid x.regions.items (plain_south x.south) (option_map string_bytes x.name) x.timeout x.refuse.refused.items c.args.s.now
    ∙ ap (λ line. fabric_after g.K.Ord.cmp g.K.Key.matching (plain_line line) (Ok _) c.args.s.now) (sym x.is))

pub returns-in-Session-clause-says : goal.returns-in-Session-clause-says
returns-in-Session-clause-says g c =
    let cmp = g.K.Ord.cmp in
    let matching = g.K.Key.matching in
    let s = c.args.s.now in
    let x = c.in-Session in
    let at = made_at s c.args.made.now in
    subst (λ line. at ≡ call_of (plain_line line) s → IfOk c.open_face.result (λ sent. sent.items ≡ sorted_by_face (said_by_line cmp matching (plain_line line) s))) (sym x.is)
    (λ is. IfOk-weaker c.open_face.result _ _ (λ sent says. says ∙ session_says cmp matching x.gateway x.first s at is) c.open_face.ensures.says)
    c.requires.call

pub returns-in-Session-clause-does : goal.returns-in-Session-clause-does
returns-in-Session-clause-does g c =
    let cmp = g.K.Ord.cmp in
    let matching = g.K.Key.matching in
    let s = c.args.s.now in
    let x = c.in-Session in
    let at = made_at s c.args.made.now in
    subst (λ line. cause_of_line cmp matching (plain_line line) s ≡ None → at ≡ call_of (plain_line line) s → IfOk c.open_face.result (λ sent. c.open_face.new.s ≡ fabric_after cmp matching (plain_line line) (Ok sent.items) s)) (sym x.is)
    (λ accepted is. IfOk-weaker c.open_face.result _ _ (λ sent does. does ∙ session_does cmp matching x.gateway x.first s sent.items at accepted is) c.open_face.ensures.does)
    c.requires.accepted c.requires.call

pub returns-in-Face-clause-says : goal.returns-in-Face-clause-says
returns-in-Face-clause-says g c =
    let cmp = g.K.Ord.cmp in
    let matching = g.K.Key.matching in
    let s = c.args.s.now in
    let x = c.in-Face in
    let at = made_at s c.args.made.now in
    subst (λ line. at ≡ call_of (plain_line line) s → IfOk c.open_face-in-Face.result (λ sent. sent.items ≡ sorted_by_face (said_by_line cmp matching (plain_line line) s))) (sym x.is)
    (λ is. IfOk-weaker c.open_face-in-Face.result _ _ (λ sent says. says ∙ face_says cmp matching x.gateway x.mode x.zid x.region x.bound x.first s at is) c.open_face-in-Face.ensures.says)
    c.requires.call

pub returns-in-Face-clause-does : goal.returns-in-Face-clause-does
returns-in-Face-clause-does g c =
    let cmp = g.K.Ord.cmp in
    let matching = g.K.Key.matching in
    let s = c.args.s.now in
    let x = c.in-Face in
    let at = made_at s c.args.made.now in
    subst (λ line. at ≡ call_of (plain_line line) s → IfOk c.open_face-in-Face.result (λ sent. c.open_face-in-Face.new.s ≡ fabric_after cmp matching (plain_line line) (Ok sent.items) s)) (sym x.is)
    (λ is. IfOk-weaker c.open_face-in-Face.result _ _ (λ sent does. does ∙ face_does cmp matching x.gateway x.mode x.zid x.region x.bound x.first s sent.items at is) c.open_face-in-Face.ensures.does)
    c.requires.call

pub returns-in-Step-clause-says : goal.returns-in-Step-clause-says
returns-in-Step-clause-says g c =
    let cmp = g.K.Ord.cmp in
    let matching = g.K.Key.matching in
    let s = c.args.s.now in
    let x = c.in-Step in
    let at = made_at s c.args.made.now in
    subst (λ line. at ≡ call_of (plain_line line) s → IfOk c.make_call.result (λ sent. sent.items ≡ sorted_by_face (said_by_line cmp matching (plain_line line) s))) (sym x.is)
    (λ is. IfOk-weaker c.make_call.result _ _ (λ sent says. says ∙ step_says cmp matching x.link x.back s at is) c.make_call.ensures.says)
    c.requires.call

pub returns-in-Step-clause-does : goal.returns-in-Step-clause-does
returns-in-Step-clause-does g c =
    let cmp = g.K.Ord.cmp in
    let matching = g.K.Key.matching in
    let s = c.args.s.now in
    let x = c.in-Step in
    let at = made_at s c.args.made.now in
    subst (λ line. at ≡ call_of (plain_line line) s → IfOk c.make_call.result (λ sent. c.make_call.new.s ≡ fabric_after cmp matching (plain_line line) (Ok sent.items) s)) (sym x.is)
    (λ is. IfOk-weaker c.make_call.result _ _ (λ sent does. does ∙ step_does cmp matching x.link x.back s (taken_by c.taken_of-taken.result s) sent.items at c.taken_of-taken.ensures is) c.make_call.ensures.does)
    c.requires.call

pub returns-in-Speak-clause-says : goal.returns-in-Speak-clause-says
returns-in-Speak-clause-says g c =
    let cmp = g.K.Ord.cmp in
    let matching = g.K.Key.matching in
    let s = c.args.s.now in
    let x = c.in-Speak in
    let at = made_at s c.args.made.now in
    subst (λ line. at ≡ call_of (plain_line line) s → IfOk c.make_call-in-Speak.result (λ sent. sent.items ≡ sorted_by_face (said_by_line cmp matching (plain_line line) s))) (sym x.is)
    (λ is. IfOk-weaker c.make_call-in-Speak.result _ _ (λ sent says. says ∙ speak_says cmp matching (plain_call x.call) s at is) c.make_call-in-Speak.ensures.says)
    c.requires.call

pub returns-in-Speak-clause-does : goal.returns-in-Speak-clause-does
returns-in-Speak-clause-does g c =
    let cmp = g.K.Ord.cmp in
    let matching = g.K.Key.matching in
    let s = c.args.s.now in
    let x = c.in-Speak in
    let at = made_at s c.args.made.now in
    subst (λ line. at ≡ call_of (plain_line line) s → IfOk c.make_call-in-Speak.result (λ sent. c.make_call-in-Speak.new.s ≡ fabric_after cmp matching (plain_line line) (Ok sent.items) s)) (sym x.is)
    (λ is. IfOk-weaker c.make_call-in-Speak.result _ _ (λ sent does. does ∙ speak_does cmp matching (plain_call x.call) s sent.items at is) c.make_call-in-Speak.ensures.does)
    c.requires.call

pub returns-in-Moment-clause-says : goal.returns-in-Moment-clause-says
returns-in-Moment-clause-says g c =
    let cmp = g.K.Ord.cmp in
    let matching = g.K.Key.matching in
    let s = c.args.s.now in
    let x = c.in-Moment in
    let at = made_at s c.args.made.now in
    subst (λ line. at ≡ call_of (plain_line line) s → IfOk c.make_call-in-Moment.result (λ sent. sent.items ≡ sorted_by_face (said_by_line cmp matching (plain_line line) s))) (sym x.is)
    (λ is. IfOk-weaker c.make_call-in-Moment.result _ _ (λ sent says. says ∙ moment_says cmp matching x.gateway x.now s at is) c.make_call-in-Moment.ensures.says)
    c.requires.call

pub returns-in-Moment-clause-does : goal.returns-in-Moment-clause-does
returns-in-Moment-clause-does g c =
    let cmp = g.K.Ord.cmp in
    let matching = g.K.Key.matching in
    let s = c.args.s.now in
    let x = c.in-Moment in
    let at = made_at s c.args.made.now in
    subst (λ line. at ≡ call_of (plain_line line) s → IfOk c.make_call-in-Moment.result (λ sent. c.make_call-in-Moment.new.s ≡ fabric_after cmp matching (plain_line line) (Ok sent.items) s)) (sym x.is)
    (λ is. IfOk-weaker c.make_call-in-Moment.result _ _ (λ sent does. does ∙ moment_does cmp matching x.gateway x.now s sent.items at is) c.make_call-in-Moment.ensures.does)
    c.requires.call

pub returns-in-Trees-clause-says : goal.returns-in-Trees-clause-says
returns-in-Trees-clause-says g c =
    let cmp = g.K.Ord.cmp in
    let matching = g.K.Key.matching in
    let s = c.args.s.now in
    let x = c.in-Trees in
    let at = made_at s c.args.made.now in
    subst (λ line. at ≡ call_of (plain_line line) s → IfOk c.make_call-in-Trees.result (λ sent. sent.items ≡ sorted_by_face (said_by_line cmp matching (plain_line line) s))) (sym x.is)
    (λ is. IfOk-weaker c.make_call-in-Trees.result _ _ (λ sent says. says ∙ trees_says cmp matching x.gateway x.region (trees_of x.table) s at is) c.make_call-in-Trees.ensures.says)
    c.requires.call

pub returns-in-Trees-clause-does : goal.returns-in-Trees-clause-does
returns-in-Trees-clause-does g c =
    let cmp = g.K.Ord.cmp in
    let matching = g.K.Key.matching in
    let s = c.args.s.now in
    let x = c.in-Trees in
    let at = made_at s c.args.made.now in
    subst (λ line. at ≡ call_of (plain_line line) s → IfOk c.make_call-in-Trees.result (λ sent. c.make_call-in-Trees.new.s ≡ fabric_after cmp matching (plain_line line) (Ok sent.items) s)) (sym x.is)
    (λ is. IfOk-weaker c.make_call-in-Trees.result _ _ (λ sent does. does ∙ trees_does cmp matching x.gateway x.region (trees_of x.table) s sent.items at is) c.make_call-in-Trees.ensures.does)
    c.requires.call
