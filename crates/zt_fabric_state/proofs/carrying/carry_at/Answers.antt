use Rattle.std.proofs.Common.{◌≡◌, ◌+◌, ap, sym, ◌∙◌}
use Rattle.zt_protocol.specs.Plain.{plain_call}
use Rattle.zt_model.specs.Fabric.{Fabric, sorted_by_face, with_rows, with_waiting}
use Rattle.zt_model.specs.Lists.{nth}
use Rattle.zt_fabric_state.specs.Changes.{taken_by}
use Rattle.zt_fabric_state.proofs.Carried.{carried_put, rows_elsewhere, rows_turned, waiting_after}
use Rattle.zt_fabric_state.proofs.Members.{some_member}
use Rattle.zt_fabric_state.proofs.carrying.carry_at.Goals as goal

pub commit_at-requires-clause-within : goal.commit_at-requires-clause-within
commit_at-requires-clause-within g c =
    rw (ap (λ (t : Fabric _). t.gateways) (c.in_ok-turn_waiting.ensures.ok) ∙ rows_elsewhere c.args.taken c.as_slice.result.now c.prepare.new.s ∙ ap (λ (t : Fabric _). t.gateways) c.in_ok-prepared.ensures.same) c.requires.within

pub commit_at-requires-clause-after : goal.commit_at-requires-clause-after
commit_at-requires-clause-after g c node at_ =
    let same : c.turn_waiting.new.self.gateways ≡ c.args.s.now.gateways =
    ap (λ (t : Fabric _). t.gateways) (c.in_ok-turn_waiting.ensures.ok) ∙ rows_elsewhere c.args.taken c.as_slice.result.now c.prepare.new.s ∙ ap (λ (t : Fabric _). t.gateways) c.in_ok-prepared.ensures.same in
    c.in_ok-prepared.ensures.rows node (ap (λ k. nth k c.args.s.now.gateways) c.requires.counted ∙ ap (nth (c.args.at + 1)) (sym same) ∙ at_)

pub returns-clause-does : goal.returns-clause-does
returns-clause-does g c =
    let s = c.args.s.now in
    let n = c.args.gateway in
    let ms = c.in_ok-sent.sent.items in
    let rows = c.in_ok-prepared.prepared.rows in
    let member = some_member n c.args.at s.gateways c.requires.counted c.requires.within in
    let same = c.in_ok-prepared.ensures.same in
    let says = c.in_ok-sent.ensures ∙ ap sorted_by_face c.in_ok-prepared.ensures.printed in
    let turned : c.turn_waiting.new.self ≡ with_waiting ms (taken_by c.args.taken s) =
    c.in_ok-turn_waiting.ensures.ok ∙ ap (λ xs. with_waiting xs (taken_by c.args.taken c.prepare.new.s)) c.as_slice.ensures.value ∙ ap (λ t. with_waiting ms (taken_by c.args.taken t)) same in
    (rw c.requires.counted c.commit_at.ensures)
    ∙ ap (with_rows n (λ _. rows)) turned
    ∙ rows_turned c.args.taken ms n rows s
    ∙ carried_put g.K.Ord.cmp g.K.Key.matching g.met.K.Ord.total c.args.taken n member.0 (plain_call c.args.call.now) s rows ms _
    member.1 (c.in_ok-prepared.ensures.rows member.0 member.1) says (waiting_after c.args.taken ms s)
