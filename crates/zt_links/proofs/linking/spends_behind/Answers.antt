use Rattle.std.proofs.Common.{ap, sym, ◌∙◌}
use Rattle.std.proofs.lemmas.Result.{IfOk-weaker}
use Rattle.zt_laws.specs.Sound.{rows_after_call}
use Rattle.zt_model.specs.Fabric.{Node}
use Rattle.zt_model.specs.Lists.{is_some_and, nth}
use Rattle.zt_model.specs.Refusals.{spends_ids}
use Rattle.zt_model.specs.Rows.{Rows}
use Rattle.zt_protocol.specs.Plain.{plain_call}
use Rattle.zt_links.proofs.linking.spends_behind.Goals as goal

pub returns-in_ok-rows-in-Some-2 : goal.returns-in_ok-rows-in-Some-2
returns-in_ok-rows-in-Some-2 g c =
    let cmp = g.K.Ord.cmp in
    let matching = g.K.Key.matching in
    let after = rows_after_call cmp matching (plain_call c.args.forth.now) in
    let spends = spends_ids cmp matching (plain_call c.args.back.now) in
    let at = ap (nth c.args.gateway) (sym c.gateways.ensures) ∙ sym c.in-Some.ensures in
    IfOk-weaker c.spends_ids.result _ _
    (λ answer is.
    is
    ∙ ap spends (c.deref.ensures ∙ c.in_ok-rows-in-Some-2.ensures ∙ ap after c.in_ok-rows-in-Some.ensures)
    ∙ sym (ap (λ o. is_some_and o (λ (node : Node g.row.K.Denot). spends (after node.rows))) at))
    c.spends_ids.ensures
