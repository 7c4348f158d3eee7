use Rattle.std.proofs.Common.{◌≡◌, ◌+◌, ◌<◌, None, Some, length, map, ap, refl, subst, sym, ◌∙◌}
use Rattle.zt_protocol.specs.Plain.{plain_call}
use Rattle.zt_model.specs.Fabric.{Fabric, Node, said_at, with_rows}
use Rattle.zt_model.specs.Lists.{nth}
use Rattle.zt_laws.specs.Sound.{rows_after_call}
use Rattle.zt_laws.proofs.Numbered.{length-at_nth}
use Rattle.zt_laws.proofs.Sorting.{printed}
use Rattle.zt_fabric_state.proofs.Carried.{call_there}
use Rattle.zt_fabric_state.proofs.PutBack.{after_put, at_nth_none, other_nth, put_back}
use Rattle.zt_fabric_state.proofs.Members.{some_member}
use Rattle.zt_fabric_state.proofs.turning.hear_call.Goals as goal

pub returns-in-None-clause-does : goal.returns-in-None-clause-does
returns-in-None-clause-does g c =
    let s = c.args.s.now in
    let none : nth c.args.gateway s.gateways ≡ None = rw c.gateways.ensures at c.in-None.ensures.none in
    ap (λ gateways. record s { gateways = gateways }) (sym (at_nth_none c.args.gateway _ s.gateways none))

pub undo_at-requires : goal.undo_at-requires
undo_at-requires g c =
    let s = c.args.s.now in
    let change = rows_after_call g.K.Ord.cmp g.K.Key.matching (plain_call c.args.call.now) in
    let within : c.in-Some.at < length s.gateways = rw c.gateways.ensures at c.in-Some.ensures.within in
    let same : length c.turn_at.new.self.gateways ≡ length s.gateways =
    ap (λ (t : Fabric _). length t.gateways) c.in_ok-turn-in-Some.ensures.state ∙ length-at_nth (c.in-Some.at + 1) (λ (x : Node _). record x { rows = change x.rows }) s.gateways in
    subst (λ k. c.in-Some.at < k) (sym same) within

pub returns-in-Ok-clause-says : goal.returns-in-Ok-clause-says
returns-in-Ok-clause-says g c =
    let s = c.args.s.now in
    let n = c.args.gateway in
    let call = plain_call c.args.call.now in
    let turned = c.in_ok-turn-in-Some in
    let counted = c.in-Some.ensures.counted in
    let member = some_member n c.in-Some.at s.gateways counted (rw c.gateways.ensures at c.in-Some.ensures.within) in
    let there : nth (c.in-Some.at + 1) s.gateways ≡ Some member.0 = ap (λ k. nth k s.gateways) (sym counted) ∙ member.1 in
    c.in-Ok.ensures
    ∙ ap (λ (places : _). map (printed places n) turned.turn.said.items) (c.places.ensures ∙ ap (λ (t : Fabric _). t.faces) turned.ensures.state)
    ∙ ap (map (printed s.faces n)) (turned.ensures.said member.0 there)
    ∙ ap (said_at g.K.Ord.cmp g.K.Key.matching s) (sym (call_there s n member.0 call member.1))

pub returns-in-Ok-clause-back : goal.returns-in-Ok-clause-back
returns-in-Ok-clause-back g c =
    let s = c.args.s.now in
    let n = c.args.gateway in
    let change = rows_after_call g.K.Ord.cmp g.K.Key.matching (plain_call c.args.call.now) in
    let turned = c.in_ok-turn-in-Some in
    let counted = c.in-Some.ensures.counted in
    let member = some_member n c.in-Some.at s.gateways counted (rw c.gateways.ensures at c.in-Some.ensures.within) in
    let there : nth (c.in-Some.at + 1) s.gateways ≡ Some member.0 = ap (λ k. nth k s.gateways) (sym counted) ∙ member.1 in
    let state : c.turn_at.new.self ≡ with_rows n change s = rw counted turned.ensures.state in
    ap (with_rows n (λ _. turned.turn.former.rows)) state ∙ put_back n change turned.turn.former.rows s member.0 member.1 (turned.ensures.former member.0 there)

pub returns-in-Err-clause-err : goal.returns-in-Err-clause-err
returns-in-Err-clause-err g c =
    let s = c.args.s.now in
    let place = c.in-Some.at in
    let change = rows_after_call g.K.Ord.cmp g.K.Key.matching (plain_call c.args.call.now) in
    let turned = c.in_ok-turn-in-Some in
    let counted = c.in-Some.ensures.counted in
    let member = some_member c.args.gateway place s.gateways counted (rw c.gateways.ensures at c.in-Some.ensures.within) in
    let there : nth (place + 1) s.gateways ≡ Some member.0 = ap (λ k. nth k s.gateways) (sym counted) ∙ member.1 in
    c.undo_at.ensures
    ∙ ap (with_rows (place + 1) (λ _. turned.turn.former.rows)) turned.ensures.state
    ∙ put_back (place + 1) change turned.turn.former.rows s member.0 there (turned.ensures.former member.0 there)

pub returns-in-Ok-clause-after : goal.returns-in-Ok-clause-after
returns-in-Ok-clause-after g c =
    let s = c.args.s.now in
    let n = c.args.gateway in
    let call = plain_call c.args.call.now in
    let change = rows_after_call g.K.Ord.cmp g.K.Key.matching call in
    let turned = c.in_ok-turn-in-Some in
    let counted = c.in-Some.ensures.counted in
    let member = some_member n c.in-Some.at s.gateways counted (rw c.gateways.ensures at c.in-Some.ensures.within) in
    let there : nth (c.in-Some.at + 1) s.gateways ≡ Some member.0 = ap (λ k. nth k s.gateways) (sym counted) ∙ member.1 in
    let state : c.turn_at.new.self ≡ with_rows n change s = rw counted turned.ensures.state in
    after_put g.K.Ord.cmp g.K.Key.matching n call turned.turn.former s c.turn_at.new.self member.0 member.1 (turned.ensures.former member.0 there) turned.ensures.call state

pub returns-in-None-clause-others : goal.returns-in-None-clause-others
returns-in-None-clause-others g c = λ k apart. refl

pub returns-in-Ok-clause-others : goal.returns-in-Ok-clause-others
returns-in-Ok-clause-others g c = λ k apart.
    let s = c.args.s.now in
    let n = c.args.gateway in
    let change = rows_after_call g.K.Ord.cmp g.K.Key.matching (plain_call c.args.call.now) in
    let counted = c.in-Some.ensures.counted in
    let state : c.turn_at.new.self ≡ with_rows n change s = rw counted c.in_ok-turn-in-Some.ensures.state in
    ap (λ (t : Fabric _). nth k t.gateways) state ∙ other_nth k n (λ (x : Node _). record x { rows = change x.rows }) s.gateways apart
