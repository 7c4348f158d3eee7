use Rattle.std.proofs.Common.{◌<◌, Some, length, arith, ap, sym, ◌∙◌}
use Rattle.zt_protocol.specs.Plain.{plain_call}
use Rattle.zt_model.specs.Fabric.{Node}
use Rattle.zt_laws.specs.Sound.{rows_after_call}
use Rattle.zt_link_queues.proofs.Members.{set_at}
use Rattle.zt_fabric_state.proofs.Members.{nth_at}
use Rattle.zt_fabric_state.proofs.state.commit_in.Goals as goal

pub commit-requires : goal.commit-requires
commit-requires g c =
    let x = c.index_mut-node.result.now in
    let within : c.args.at < length c.args.gateways.now.items = omega arith in
    c.requires.after x (nth_at c.args.at c.args.gateways.now.items x within ∙ ap (λ (y : Node _). Some y) (sym c.index_mut-node.ensures.value))
    ∙ ap (λ (y : Node _). rows_after_call g.K.Ord.cmp g.K.Key.matching (plain_call c.args.call.now) y.rows) (sym c.node.view_is)

pub returns : goal.returns
returns g c =
    let within : c.args.at < length c.args.gateways.now.items = omega arith in
    set_at (λ (node : Node _). record node { rows = c.args.rows }) c.args.at c.args.gateways.now.items c.index_mut-node.result.now _ within c.index_mut-node.ensures.value
    (rw c.commit.ensures (ap (λ (node : Node _). record node { rows = c.args.rows }) c.node.view_is))
