use Rattle.std.proofs.Common.{◌<◌, length, arith, ap}
use Rattle.zt_model.specs.Fabric.{Node}
use Rattle.zt_link_queues.proofs.Members.{set_at}
use Rattle.zt_fabric_state.proofs.state.undo_in.Goals as goal

pub returns : goal.returns
returns g c =
    let within : c.args.at < length c.args.gateways.now.items = omega arith in
    set_at (λ (node : Node _). record node { rows = c.args.former.rows }) c.args.at c.args.gateways.now.items c.index_mut-node.result.now _ within c.index_mut-node.ensures.value
    (rw c.undo.ensures (ap (λ (node : Node _). record node { rows = c.args.former.rows }) c.node.view_is))
