use Rattle.std.proofs.Common.{map, ap, ◌∙◌}
use Rattle.zt_region.specs.South.{plain_link}
use Rattle.zt_model.specs.Fabric.{Node}
use Rattle.zt_model.specs.Rows.{Rows}
use Rattle.zt_fabric_state.proofs.Restored.{peer_by_parts}
use Rattle.zt_fabric_state.proofs.gateways.peer_of.Goals as goal

pub returns : goal.returns
returns g c =
    peer_by_parts c.args.node.now _
    (c.zid.ensures ∙ ap (λ (rows : Rows _). rows.zid) c.in_ok-rows.ensures)
    (c.mode.ensures ∙ ap (λ (rows : Rows _). rows.mode) c.in_ok-rows.ensures)
    (ap (map plain_link) c.new.ensures.items)
    (c.in_ok-copy_name.ensures ∙ ap (λ (node : Node _). node.name) c.node.view_is)
