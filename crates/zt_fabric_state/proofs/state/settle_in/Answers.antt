use Rattle.std.proofs.Common.{◌<◌, Some, length, set, arith, ap, sym, ◌∙◌}
use Rattle.std.proofs.lemmas.List.{set-get_or}
use Rattle.zt_model.specs.Fabric.{Node}
use Rattle.zt_fabric_state.proofs.Members.{nth_at}
use Rattle.zt_fabric_state.proofs.state.settle_in.Goals as goal

pub settle-requires : goal.settle-requires
settle-requires g c =
    let x = c.index_mut-node.result.now in
    let within : c.args.at < length c.args.gateways.now.items = omega arith in
    ap (λ (y : Node _). y.rows) c.node.view_is
    ∙ c.requires.after x (nth_at c.args.at c.args.gateways.now.items x within ∙ ap (λ (y : Node _). Some y) (sym c.index_mut-node.ensures.value))

pub returns : goal.returns
returns g c =
    let items = c.args.gateways.now.items in
    ap (set items c.args.at) ((rw c.settle.ensures c.node.view_is) ∙ c.index_mut-node.ensures.value)
    ∙ set-get_or items c.args.at c.index_mut-node.result.now
