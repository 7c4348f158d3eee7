use Rattle.std.proofs.lemmas.Result.{IfOk-weaker}
use Rattle.std.proofs.Common.{◌≡◌, Some, ap, refl, subst, ◌∙◌}
use Rattle.zt_model.specs.Fabric.{sorted_by_face}
use Rattle.zt_model.specs.Lists.{nth}
use Rattle.zt_fabric_state.specs.Changes.{carried, said_sorted}
use Rattle.zt_links.proofs.Carried.{made_called, made_nowhere, made_says, nothing_carried, ok_both}
use Rattle.zt_fabric_state.proofs.Members.{some_member}
use Rattle.zt_links.proofs.making.make_call.Goals as goal

pub returns-in_default-clause-says : goal.returns-in_default-clause-says
unfolding sorted_by_face
returns-in_default-clause-says g c = rw (c.new.ensures.items, c.in_default.is) refl

pub returns-in_default-clause-does : goal.returns-in_default-clause-does
returns-in_default-clause-does g c =
    rw (c.new.ensures.items, c.in_default.is) (nothing_carried g.K.Ord.cmp c.args.taken c.args.s.now c.take_message.new.s c.take_message.ensures)

pub returns-in-None-clause-says : goal.returns-in-None-clause-says
unfolding sorted_by_face
returns-in-None-clause-says g c =
    let nowhere = made_nowhere c.args.s.now c.gateways.result.now c.args.made.now c.in-Some.made c.made.inside.gateway c.in-Some.is (ap (λ m. m.0) c.made.view_is) c.gateways.ensures c.in-None.ensures.none in
    rw (c.new-in-None.ensures.items, nowhere) refl

pub returns-in-None-clause-does : goal.returns-in-None-clause-does
returns-in-None-clause-does g c =
    let nowhere = made_nowhere c.args.s.now c.gateways.result.now c.args.made.now c.in-Some.made c.made.inside.gateway c.in-Some.is (ap (λ m. m.0) c.made.view_is) c.gateways.ensures c.in-None.ensures.none in
    rw (c.new-in-None.ensures.items, nowhere) (nothing_carried g.K.Ord.cmp c.args.taken c.args.s.now c.take_message-in-None.new.s c.take_message-in-None.ensures)

pub returns-in-Some-member_place-clause-does : goal.returns-in-Some-member_place-clause-does
returns-in-Some-member_place-clause-does g c =
    let cmp = g.K.Ord.cmp in
    let matching = g.K.Key.matching in
    let s = c.args.s.now in
    let m = c.in-Some.made in
    let found = c.in-Some-member_place in
    let member = some_member c.made.inside.gateway found.at s.gateways found.ensures.counted (rw c.gateways.ensures at found.ensures.within) in
    let there = subst (λ n. nth n s.gateways ≡ Some member.0) (ap (λ m. m.0) c.made.view_is) member.1 in
    ok_both (λ sent. sent.items ≡ said_sorted cmp matching c.made.inside.gateway _ s) _ _ c.carry_at.result
    (λ sent says does. made_called cmp matching g.met.K.Ord.total c.args.taken s c.carry_at.new.s c.args.made.now m member.0 sent.items c.in-Some.is there c.requires.still c.requires.order
    (says ∙ ap (λ m. said_sorted cmp matching m.0 m.1 s) c.made.view_is)
    (does ∙ ap (λ m. carried cmp matching c.args.taken m.0 m.1 s) c.made.view_is))
    c.carry_at.ensures.says c.carry_at.ensures.does

pub returns-in-Some-member_place-clause-says : goal.returns-in-Some-member_place-clause-says
returns-in-Some-member_place-clause-says g c =
    let cmp = g.K.Ord.cmp in
    let matching = g.K.Key.matching in
    let s = c.args.s.now in
    let m = c.in-Some.made in
    IfOk-weaker c.carry_at.result _ _
    (λ sent says. made_says cmp matching g.met.K.Ord.total s c.args.made.now m sent.items c.in-Some.is (says ∙ ap (λ m. said_sorted cmp matching m.0 m.1 s) c.made.view_is))
    c.carry_at.ensures.says
