use Rattle.std.proofs.Common.{◌+◌, None, length, ap, subst, sym, ◌∙◌}
use Rattle.zt_protocol.specs.Plain.{plain_call}
use Rattle.zt_model.specs.Fabric.{Fabric}
use Rattle.zt_link_queues.specs.Found.{AreBelow}
use Rattle.zt_fabric_state.specs.Changes.{carried, said_sorted, without_last_place}
use Rattle.zt_fabric_state.proofs.Carried.{placed_next}
use Rattle.zt_fabric_state.proofs.Members.{member_there}
use Rattle.zt_fabric_state.proofs.carrying.open_at.Goals as goal

pub returns-in-Ok-clause-says : goal.returns-in-Ok-clause-says
returns-in-Ok-clause-says g c =
    let s = c.args.s.now in
    let item = c.index-gateways-at in
    let there = member_there c.args.gateway c.args.at s.gateways c.gateways.result.now item.result c.requires.counted c.gateways.ensures c.requires.within item.is in
    let placed = placed_next c.args.gateway item.result s c.in_ok-face.face there (c.in_ok-face.ensures ∙ ap (λ rows. rows.made + 1) c.in_ok-rows.ensures) in
    c.in-Ok.ensures.says ∙ ap (said_sorted g.K.Ord.cmp g.K.Key.matching c.args.gateway (plain_call c.args.call.now)) (c.in_ok-push_place.ensures.ok ∙ placed)

pub returns-in-Ok-clause-does : goal.returns-in-Ok-clause-does
returns-in-Ok-clause-does g c =
    let s = c.args.s.now in
    let item = c.index-gateways-at in
    let there = member_there c.args.gateway c.args.at s.gateways c.gateways.result.now item.result c.requires.counted c.gateways.ensures c.requires.within item.is in
    let placed = placed_next c.args.gateway item.result s c.in_ok-face.face there (c.in_ok-face.ensures ∙ ap (λ rows. rows.made + 1) c.in_ok-rows.ensures) in
    c.in-Ok.ensures.does ∙ ap (carried g.K.Ord.cmp g.K.Key.matching None c.args.gateway (plain_call c.args.call.now)) (c.in_ok-push_place.ensures.ok ∙ placed)

pub pop_place-requires : goal.pop_place-requires
pop_place-requires g c = subst (λ (t : Fabric _). AreBelow (length t.faces) t.links) (sym c.in-Err.ensures.err) c.in_ok-push_place.ensures.free

pub returns-in-Err-clause-err : goal.returns-in-Err-clause-err
returns-in-Err-clause-err g c = c.pop_place.ensures ∙ ap without_last_place c.in-Err.ensures.err ∙ c.in_ok-push_place.ensures.back
