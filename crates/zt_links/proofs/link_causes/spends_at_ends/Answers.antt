use Rattle.std.proofs.Common.{◌≡◌, Some, option_map, ap, sym, ◌∙◌}
use Rattle.std.proofs.lemmas.Result.{IfOk-weaker}
use Rattle.zt_protocol.specs.Plain.{plain_call}
use Rattle.zt_model.specs.Linking.{end_region}
use Rattle.zt_links.specs.Lines.{call_to_open}
use Rattle.zt_links.proofs.LinkCauses.{link_spends}
use Rattle.zt_links.proofs.link_causes.spends_at_ends.Goals as goal

pub returns-in-Some-Some : goal.returns-in-Some-Some
returns-in-Some-Some g c =
    let x = c.args in
    let a = x.a.now in
    let b = x.b.now in
    let forth = plain_call c.in-Some-Some.forth in
    let answer = plain_call c.in-Some-Some.answer in
    let forth_is : call_to_open b (end_region a b) x.first ≡ Some forth = ap (λ r. call_to_open b r x.first) (sym c.requires.near) ∙ sym c.in_ok-forth.ensures ∙ ap (option_map plain_call) c.in-Some-Some.is-0 in
    let answer_is : call_to_open a (end_region b a) x.back ≡ Some answer = ap (λ r. call_to_open a r x.back) (sym c.requires.far) ∙ sym c.in_ok-answer.ensures ∙ ap (option_map plain_call) c.in-Some-Some.is-1 in
    IfOk-weaker c.spends_for_link.result _ _
    (λ spends is. is ∙ link_spends g.K.Ord.cmp g.K.Key.matching x.one x.two x.first x.back x.s.now a b forth answer c.requires.near_node c.requires.far_node forth_is answer_is)
    c.spends_for_link.ensures
