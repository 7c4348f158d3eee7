use Rattle.std.proofs.Common.{Option, None, Some, ap, sym, ◌∙◌}
use Rattle.std.proofs.lemmas.Result.{IfOk-weaker}
use Rattle.zt_model.specs.Fabric.{CallAt, Node}
use Rattle.zt_model.specs.Lists.{is_some_and, nth}
use Rattle.zt_model.specs.Refusals.{spends_ids}
use Rattle.zt_protocol.specs.Plain.{plain_call}
use Rattle.zt_links.proofs.linking.spends_at.Goals as goal

pub returns-in_ok-rows-in-Some : goal.returns-in_ok-rows-in-Some
returns-in_ok-rows-in-Some g c =
    let call = plain_call c.args.call.now in
    let spends = spends_ids g.K.Ord.cmp g.K.Key.matching call in
    let at = ap (nth c.args.gateway) (sym c.gateways.ensures) ∙ sym c.in-Some.ensures in
    let called : Option (Node g.row.K.Denot) → Option (CallAt g.row.K.Denot) = λ o. elim o [ None ↦ None | Some node ↦ Some (record { gateway = c.args.gateway; rows = node.rows; call = call }) ] in
    IfOk-weaker c.spends_ids.result _ _
    (λ answer is.
    is
    ∙ ap spends c.in_ok-rows-in-Some.ensures
    ∙ sym (ap (λ o. is_some_and (called o) (λ at. spends_ids g.K.Ord.cmp g.K.Key.matching at.call at.rows)) at))
    c.spends_ids.ensures
