use Rattle.std.proofs.Common.{◌≡◌}
use Rattle.zt_fabric_state.proofs.state.restore_all.Given as goal

-- each gateway is as before
abbrev pub invariant-loop-node : goal.invariant-loop-node
invariant-loop-node g l = l.node-items ≡ l.initial.node-items
