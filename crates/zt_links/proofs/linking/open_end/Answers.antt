use Rattle.std.proofs.Common.{◌≡◌, ◌<◌, ◌+◌, ◌++◌, [], ◌∷◌, None, is_none, length, ap, subst, sym, ◌∙◌}
use Rattle.std.proofs.lemmas.List.{length-append}
use Rattle.std.proofs.lemmas.Bool.{false≢true}
use Rattle.zt_protocol.specs.Plain.{plain_call}
use Rattle.zt_model.specs.Fabric.{Fabric, call_at, said_at, with_place, with_rows}
use Rattle.zt_model.specs.Lists.{nth}
use Rattle.zt_laws.specs.Sound.{rows_after_call}
use Rattle.zt_link_queues.specs.Found.{AreBelow}
use Rattle.zt_fabric_state.specs.Changes.{without_last_place}
use Rattle.zt_fabric_state.proofs.Carried.{placed_next}
use Rattle.zt_links.proofs.Carried.{said_opened}
use Rattle.zt_fabric_state.proofs.Members.{member_there}
use Rattle.zt_links.proofs.Turned.{end_turned}
use Rattle.zt_links.proofs.linking.open_end.Goals as goal

pub unreachable-requires : goal.unreachable-requires
unreachable-requires g c =
    let none : nth c.args.gateway c.args.s.now.gateways ≡ None = rw c.gateways.ensures at c.in_default.ensures.none in
    absurd (false≢true (sym c.requires.there ∙ ap is_none none))

pub returns-in-Ok-clause-says : goal.returns-in-Ok-clause-says
returns-in-Ok-clause-says g c =
    let cmp = g.K.Ord.cmp in
    let matching = g.K.Key.matching in
    let s = c.args.s.now in
    let n = c.args.gateway in
    let call = plain_call c.args.call.now in
    let item = c.index-gateways-at in
    let ends = s.waiting ++ (length s.faces + 1, []) ∷ [] in
    let within : c.in-Some.at < length s.gateways = rw c.gateways.ensures at c.in-Some.ensures.within in
    let there = member_there n c.in-Some.at s.gateways c.gateways-2.result.now item.result c.in-Some.ensures.counted c.gateways-2.ensures within item.is in
    let placed : c.push_end.new.self ≡ record (with_place n s) { waiting = ends } =
    c.in_ok-push_end.ensures.ok ∙ ap (λ (t : Fabric _). record t { waiting = ends }) (placed_next n item.result s c.in_ok-face.face there (c.in_ok-face.ensures ∙ ap (λ rows. rows.made + 1) c.in_ok-rows.ensures)) in
    c.in-Ok.ensures.says
    ∙ ap (λ (t : Fabric _). said_at cmp matching t (call_at t n call)) placed
    ∙ said_opened cmp matching g.met.K.Ord.total n item.result call s there

pub returns-in-Ok-clause-does : goal.returns-in-Ok-clause-does
returns-in-Ok-clause-does g c =
    let cmp = g.K.Ord.cmp in
    let matching = g.K.Key.matching in
    let s = c.args.s.now in
    let n = c.args.gateway in
    let call = plain_call c.args.call.now in
    let item = c.index-gateways-at in
    let ends = s.waiting ++ (length s.faces + 1, []) ∷ [] in
    let within : c.in-Some.at < length s.gateways = rw c.gateways.ensures at c.in-Some.ensures.within in
    let there = member_there n c.in-Some.at s.gateways c.gateways-2.result.now item.result c.in-Some.ensures.counted c.gateways-2.ensures within item.is in
    let placed : c.push_end.new.self ≡ record (with_place n s) { waiting = ends } =
    c.in_ok-push_end.ensures.ok ∙ ap (λ (t : Fabric _). record t { waiting = ends }) (placed_next n item.result s c.in_ok-face.face there (c.in_ok-face.ensures ∙ ap (λ rows. rows.made + 1) c.in_ok-rows.ensures)) in
    c.in-Ok.ensures.does
    ∙ ap (with_rows n (rows_after_call cmp matching call)) placed
    ∙ ap (λ (t : Fabric _). record t { waiting = ends }) (end_turned cmp matching g.met.K.Ord.total n item.result call s there c.requires.opens c.requires.order)

pub returns-in-Ok-clause-links : goal.returns-in-Ok-clause-links
returns-in-Ok-clause-links g c = ap (λ (t : Fabric _). t.links) c.in-Ok.ensures.does ∙ ap (λ (t : Fabric _). t.links) c.in_ok-push_end.ensures.ok

pub returns-in-Ok-clause-faces : goal.returns-in-Ok-clause-faces
returns-in-Ok-clause-faces g c =
    ap (λ (t : Fabric _). length t.faces) c.in-Ok.ensures.does
    ∙ ap (λ (t : Fabric _). length t.faces) c.in_ok-push_end.ensures.ok
    ∙ length-append c.args.s.now.faces (record { gateway = c.args.gateway; face = c.in_ok-face.face } ∷ [])

pub returns-in-Ok-clause-free : goal.returns-in-Ok-clause-free
returns-in-Ok-clause-free g c = subst (λ (t : Fabric _). AreBelow (length t.faces) t.links) (sym c.in-Ok.ensures.does) c.in_ok-push_end.ensures.free

pub pop_place-requires : goal.pop_place-requires
pop_place-requires g c = subst (λ (t : Fabric _). AreBelow (length t.faces) t.links) (sym c.in-Err.ensures.err) c.in_ok-push_end.ensures.free

pub returns-in-Ok-clause-back : goal.returns-in-Ok-clause-back
returns-in-Ok-clause-back g c = ap without_last_place c.in-Ok.ensures.back ∙ c.in_ok-push_end.ensures.back

pub returns-in-Err-clause-err : goal.returns-in-Err-clause-err
returns-in-Err-clause-err g c = c.pop_place.ensures ∙ ap without_last_place c.in-Err.ensures.err ∙ c.in_ok-push_end.ensures.back
