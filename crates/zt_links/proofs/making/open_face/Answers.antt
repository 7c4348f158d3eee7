use Rattle.std.proofs.Common.{◌≡◌, None, Some, ap, refl, subst, ◌∙◌}
use Rattle.std.proofs.lemmas.Result.{IfOk-weaker}
use Rattle.zt_model.specs.Fabric.{sorted_by_face, with_place}
use Rattle.zt_model.specs.Lists.{nth}
use Rattle.zt_fabric_state.specs.Changes.{carried, said_sorted}
use Rattle.zt_links.proofs.Carried.{made_nowhere, nothing_carried, ok_both, opened_made, opening_says}
use Rattle.zt_fabric_state.proofs.Members.{some_member}
use Rattle.zt_links.proofs.making.open_face.Goals as goal

pub returns-in_default-clause-says : goal.returns-in_default-clause-says
unfolding sorted_by_face
returns-in_default-clause-says g c = rw (c.new.ensures.items, c.in_default.is) refl

pub returns-in_default-clause-does : goal.returns-in_default-clause-does
returns-in_default-clause-does g c = rw (c.new.ensures.items, c.in_default.is) (nothing_carried g.K.Ord.cmp None c.args.s.now c.args.s.now refl)

pub returns-in-None-clause-says : goal.returns-in-None-clause-says
unfolding sorted_by_face
returns-in-None-clause-says g c =
    let nowhere = made_nowhere c.args.s.now c.gateways.result.now c.args.made.now c.in-Some.made c.made.inside.gateway c.in-Some.is (ap (λ m. m.0) c.made.view_is) c.gateways.ensures c.in-None.ensures.none in
    rw (c.new-in-None.ensures.items, nowhere) refl

pub returns-in-None-clause-does : goal.returns-in-None-clause-does
returns-in-None-clause-does g c =
    let nowhere = made_nowhere c.args.s.now c.gateways.result.now c.args.made.now c.in-Some.made c.made.inside.gateway c.in-Some.is (ap (λ m. m.0) c.made.view_is) c.gateways.ensures c.in-None.ensures.none in
    rw (c.new-in-None.ensures.items, nowhere) (nothing_carried g.K.Ord.cmp None c.args.s.now c.args.s.now refl)

pub returns-in-Some-member_place-clause-says : goal.returns-in-Some-member_place-clause-says
returns-in-Some-member_place-clause-says g c =
    let cmp = g.K.Ord.cmp in
    let matching = g.K.Key.matching in
    let s = c.args.s.now in
    let m = c.in-Some.made in
    let found = c.in-Some-member_place in
    let member = some_member c.made.inside.gateway found.at s.gateways found.ensures.counted (rw c.gateways.ensures at found.ensures.within) in
    let there = subst (λ n. nth n s.gateways ≡ Some member.0) (ap (λ m. m.0) c.made.view_is) member.1 in
    IfOk-weaker c.open_at.result _ _
    (λ sent says. opening_says cmp matching g.met.K.Ord.total s c.args.made.now m member.0 sent.items c.in-Some.is there (says ∙ ap (λ m. said_sorted cmp matching m.0 m.1 (with_place m.0 s)) c.made.view_is))
    c.open_at.ensures.says

pub returns-in-Some-member_place-clause-does : goal.returns-in-Some-member_place-clause-does
returns-in-Some-member_place-clause-does g c =
    let cmp = g.K.Ord.cmp in
    let matching = g.K.Key.matching in
    let s = c.args.s.now in
    let m = c.in-Some.made in
    let found = c.in-Some-member_place in
    let member = some_member c.made.inside.gateway found.at s.gateways found.ensures.counted (rw c.gateways.ensures at found.ensures.within) in
    let there = subst (λ n. nth n s.gateways ≡ Some member.0) (ap (λ m. m.0) c.made.view_is) member.1 in
    ok_both (λ sent. sent.items ≡ said_sorted cmp matching c.made.inside.gateway _ (with_place c.made.inside.gateway s)) _ _ c.open_at.result
    (λ sent says does. opened_made cmp matching g.met.K.Ord.total s c.open_at.new.s c.args.made.now m member.0 sent.items c.in-Some.is there c.requires.opens c.requires.order
    (says ∙ ap (λ m. said_sorted cmp matching m.0 m.1 (with_place m.0 s)) c.made.view_is)
    (does ∙ ap (λ m. carried cmp matching None m.0 m.1 (with_place m.0 s)) c.made.view_is))
    c.open_at.ensures.says c.open_at.ensures.does
