use Rattle.std.proofs.Common.{◌≡◌, Some, ap, sym, ◌∙◌}
use Rattle.std.proofs.lemmas.Result.{IfOk-weaker}
use Rattle.zt_model.specs.Lists.{nth}
use Rattle.zt_links.specs.Lines.{call_to_open, opening_call}
use Rattle.zt_links.proofs.joining.opening_call.Goals as goal

pub returns : goal.returns
returns g c =
    let x = c.args in
    let gateways = x.s.now.gateways in
    let node = c.in-Some.node.now in
    let beyond = c.in-Some-member_at.beyond.now in
    let own : nth x.own gateways ≡ Some node = ap (nth x.own) (sym c.gateways.ensures) ∙ sym c.in-Some.ensures in
    let other : nth x.other gateways ≡ Some beyond = ap (nth x.other) (sym c.gateways-2.ensures) ∙ sym c.in-Some-member_at.ensures in
    let opens = ap (λ o. opening_call o (nth x.other gateways) x.first) own ∙ ap (λ o. opening_call (Some node) o x.first) other in
    IfOk-weaker c.end_call.result _ _
    (λ call is. is ∙ ap (λ r. call_to_open beyond r x.first) c.in_ok-answer.ensures ∙ sym opens)
    c.end_call.ensures
