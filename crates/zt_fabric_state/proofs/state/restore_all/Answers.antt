use Rattle.std.proofs.Common.{◌≡◌, length, set, ap, ◌∙◌}
use Rattle.std.proofs.lemmas.List.{set-get_or}
use Rattle.zt_fabric_state.proofs.Restored.{put_together}
use Rattle.zt_fabric_state.proofs.state.restore_all.Goals as goal

pub returns-in_err-restore : goal.returns-in_err-restore
returns-in_err-restore g c =
    let as_long : c.args.gateways.now.len ≡ length c.args.gateways.now.items = search in
    put_together _ _ _
    (ap (set c.loop-node.node-items c.loop-node.node-index) (rw c.restore.ensures c.node.view_is)
    ∙ set-get_or c.loop-node.node-items c.loop-node.node-index c.node-item.result
    ∙ c.loop-node.invariant
    ∙ c.deref_mut-node-items.ensures.value)
    as_long

pub loop-node-preserved : goal.loop-node-preserved
loop-node-preserved g c =
    ap (set c.loop-node.node-items c.loop-node.node-index) (rw c.restore.ensures c.node.view_is)
    ∙ set-get_or c.loop-node.node-items c.loop-node.node-index c.node-item.result
    ∙ c.loop-node.invariant

pub returns : goal.returns
returns g c =
    let as_long : c.args.gateways.now.len ≡ length c.args.gateways.now.items = search in
    put_together _ _ _ (c.loop-node.invariant ∙ c.deref_mut-node-items.ensures.value) as_long
