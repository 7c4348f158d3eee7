use Rattle.std.proofs.Common.{◌≡◌, take}
use Rattle.zt_check_fabric.proofs.fabric.copy_nodes.Given as goal

-- those so far are copied
abbrev pub invariant-loop-node : goal.invariant-loop-node
invariant-loop-node g l = l.copies.items ≡ take l.node-index l.nodes
