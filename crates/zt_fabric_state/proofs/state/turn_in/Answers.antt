use Rattle.std.proofs.Common.{◌<◌, length, arith, ap, refl, ◌∙◌}
use Rattle.std.proofs.lemmas.Result.{IfOk-weaker, on_ok_weaker}
use Rattle.zt_protocol.specs.Plain.{plain_call}
use Rattle.zt_model.specs.Fabric.{Node}
use Rattle.zt_model.specs.Says.{said}
use Rattle.zt_laws.specs.Sound.{rows_after_call}
use Rattle.zt_link_queues.proofs.Members.{set_at}
use Rattle.zt_fabric_state.proofs.Members.{member_is}
use Rattle.zt_fabric_state.proofs.state.turn_in.Goals as goal

pub returns-clause-state : goal.returns-clause-state
returns-clause-state g c =
    let items = c.args.gateways.now.items in
    let within : c.args.at < length items = omega arith in
    let turned = λ (node : Node _). record node { rows = rows_after_call g.K.Ord.cmp g.K.Key.matching (plain_call c.args.call.now) node.rows } in
    on_ok_weaker c.turn.result
    (λ after. set_at turned c.args.at items c.index_mut-node.result.now _ within c.index_mut-node.ensures.value (rw after (ap turned c.node.view_is)))
    c.turn.ensures.state

pub returns-clause-former : goal.returns-clause-former
returns-clause-former g c =
    let items = c.args.gateways.now.items in
    let x = c.index_mut-node.result.now in
    let within : c.args.at < length items = omega arith in
    IfOk-weaker c.turn.result _ _
    (λ turn is node at_. is ∙ ap (λ (y : Node _). y.rows) (c.node.view_is ∙ member_is _ c.args.at items items x node refl refl within c.index_mut-node.ensures.value at_))
    c.turn.ensures.former

pub returns-clause-said : goal.returns-clause-said
returns-clause-said g c =
    let items = c.args.gateways.now.items in
    let x = c.index_mut-node.result.now in
    let within : c.args.at < length items = omega arith in
    IfOk-weaker c.turn.result _ _
    (λ turn is node at_. is ∙ ap (λ (y : Node _). said g.K.Ord.cmp g.K.Key.matching (plain_call c.args.call.now) y.rows)
    (c.node.view_is ∙ member_is _ c.args.at items items x node refl refl within c.index_mut-node.ensures.value at_))
    c.turn.ensures.said
