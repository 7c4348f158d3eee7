use Rattle.std.proofs.Common.{◌≡◌, Some, ap, sym, ◌∙◌}
use Rattle.std.proofs.lemmas.Result.{IfOk-weaker}
use Rattle.zt_protocol.specs.Plain.{plain_call}
use Rattle.zt_model.specs.Lists.{nth}
use Rattle.zt_model.specs.Journal.{cause_of}
use Rattle.zt_fabric_state.proofs.Carried.{call_there}
use Rattle.zt_links.specs.Lines.{cause_at, made_at}
use Rattle.zt_links.proofs.causes.cause_of_made.Goals as goal

pub returns : goal.returns
returns g c =
    let cmp = g.K.Ord.cmp in
    let matching = g.K.Key.matching in
    let s = c.args.s.now in
    let n = c.made.inside.gateway in
    let call = plain_call c.made.inside.call in
    let node = c.in-Some-member_at.node.now in
    let there : nth n s.gateways ≡ Some node = ap (nth n) (sym c.gateways.ensures) ∙ sym c.in-Some-member_at.ensures in
    let made = ap (made_at s) c.in-Some.is ∙ ap (λ m. made_at s (Some m)) (sym c.made.view_is) ∙ call_there s n node call there in
    IfOk-weaker c.cause_of.result _ _
    (λ cause is. is ∙ ap (cause_of cmp matching call) c.in_ok-rows.ensures ∙ sym (ap (cause_at cmp matching) made))
    c.cause_of.ensures
