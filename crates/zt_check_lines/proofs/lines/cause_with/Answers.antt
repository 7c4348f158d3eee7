use Rattle.std.proofs.Common.{option_map, string_bytes, ◌∙◌}
use Rattle.zt_region.specs.South.{plain_south}
use Rattle.zt_protocol.specs.Plain.{plain_call, trees_of}
use Rattle.zt_check_fabric.specs.Made.{made_at}
use Rattle.zt_check_lines.proofs.Causes.{face_line, gateway_line, moment_line, session_line, speaking_line, step_line, told_where, trees_line, unlink_line}
use Rattle.zt_check_lines.proofs.lines.cause_with.Goals as goal

pub returns-in-Gateway : goal.returns-in-Gateway
returns-in-Gateway g c is =
    let l = c.in-Gateway in
    let told = rw (c.as_slice.ensures.value, c.as_slice-in-Gateway.ensures.value) at c.gateway_cause.ensures in
    rw c.in-Gateway.is
    (told
    ∙ gateway_line g.K.Ord.cmp g.K.Key.matching l.mode l.zid l.regions.items (plain_south l.south) (option_map string_bytes l.name) l.timeout l.refuse.refused.items c.args.fabric.now)

pub returns-in-Session : goal.returns-in-Session
returns-in-Session g c is =
    rw c.in-Session.is (c.session_cause.ensures ∙ session_line g.K.Ord.cmp g.K.Key.matching c.in-Session.gateway c.in-Session.first c.args.fabric.now)

pub returns-in-Face : goal.returns-in-Face
returns-in-Face g c =
    let l = c.in-Face in
    let s = c.args.fabric.now in
    rw c.in-Face.is (told_where c.face_cause.result _ _ c.face_cause.ensures (λ is. face_line g.K.Ord.cmp g.K.Key.matching l.gateway l.mode l.zid l.region l.bound l.first s (made_at s c.args.made.now) is))

pub returns-in-Unlink : goal.returns-in-Unlink
returns-in-Unlink g c is =
    rw c.in-Unlink.is (c.unlink_cause.ensures ∙ unlink_line g.K.Ord.cmp g.K.Key.matching c.in-Unlink.link c.args.fabric.now)

pub returns-in-Step : goal.returns-in-Step
returns-in-Step g c =
    let s = c.args.fabric.now in
    rw c.in-Step.is (told_where c.step_cause.result _ _ c.step_cause.ensures (λ is. step_line g.K.Ord.cmp g.K.Key.matching c.in-Step.link c.in-Step.back s (made_at s c.args.made.now) is))

pub returns-in-Speak : goal.returns-in-Speak
returns-in-Speak g c =
    let s = c.args.fabric.now in
    rw c.in-Speak.is (told_where c.speaking_cause.result _ _ c.speaking_cause.ensures (λ is. speaking_line g.K.Ord.cmp g.K.Key.matching (plain_call c.in-Speak.call) s (made_at s c.args.made.now) is))

pub returns-in-Moment : goal.returns-in-Moment
returns-in-Moment g c =
    let s = c.args.fabric.now in
    rw c.in-Moment.is (told_where c.cause_at_gateway.result _ _ c.cause_at_gateway.ensures (λ is. moment_line g.K.Ord.cmp g.K.Key.matching c.in-Moment.gateway c.in-Moment.now s (made_at s c.args.made.now) is))

pub returns-in-Trees : goal.returns-in-Trees
returns-in-Trees g c =
    let s = c.args.fabric.now in
    rw c.in-Trees.is (told_where c.cause_at_gateway-in-Trees.result _ _ c.cause_at_gateway-in-Trees.ensures (λ is. trees_line g.K.Ord.cmp g.K.Key.matching c.in-Trees.gateway c.in-Trees.region (trees_of c.in-Trees.table) s (made_at s c.args.made.now) is))
