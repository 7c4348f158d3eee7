use Rattle.std.proofs.Common.{◌<◌, length, set, arith, ap, refl, ◌∙◌}
use Rattle.std.proofs.lemmas.List.{set-get_or}
use Rattle.std.proofs.lemmas.Result.{IfOk-weaker}
use Rattle.zt_protocol.specs.Plain.{plain_call}
use Rattle.zt_model.specs.Fabric.{Node}
use Rattle.zt_model.specs.Says.{said}
use Rattle.zt_laws.specs.Sound.{rows_after_call}
use Rattle.zt_fabric_state.proofs.Members.{member_is}
use Rattle.zt_fabric_state.proofs.state.prepare_in.Goals as goal

pub returns-clause-state : goal.returns-clause-state
returns-clause-state g c =
    let items = c.args.gateways.now.items in
    let x = c.index_mut-node.result.now in
    let within : c.args.at < length items = omega arith in
    IfOk-weaker c.prepare.result _ _
    (λ ahead is node at_. is ∙ ap (λ (y : Node _). rows_after_call g.K.Ord.cmp g.K.Key.matching (plain_call c.args.call.now) y.rows)
    (c.node.view_is ∙ member_is _ c.args.at items items x node refl refl within c.index_mut-node.ensures.value at_))
    c.prepare.ensures.state

pub returns-clause-said : goal.returns-clause-said
returns-clause-said g c =
    let items = c.args.gateways.now.items in
    let x = c.index_mut-node.result.now in
    let within : c.args.at < length items = omega arith in
    IfOk-weaker c.prepare.result _ _
    (λ ahead is node at_. is ∙ ap (λ (y : Node _). said g.K.Ord.cmp g.K.Key.matching (plain_call c.args.call.now) y.rows)
    (c.node.view_is ∙ member_is _ c.args.at items items x node refl refl within c.index_mut-node.ensures.value at_))
    c.prepare.ensures.said

pub returns-clause-same : goal.returns-clause-same
returns-clause-same g c =
    let items = c.args.gateways.now.items in
    ap (set items c.args.at) ((rw c.prepare.ensures.same c.node.view_is) ∙ c.index_mut-node.ensures.value)
    ∙ set-get_or items c.args.at c.index_mut-node.result.now
