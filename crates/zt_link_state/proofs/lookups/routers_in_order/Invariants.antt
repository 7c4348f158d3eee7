use Rattle.std.proofs.Common.{◌≡◌, ◌++◌}
use Rattle.zt_link_state.specs.Lookups.{by_node}
use Rattle.zt_link_state.proofs.lookups.routers_in_order.Given as goal

-- those so far and those left are all
abbrev pub invariant-loop-router : goal.invariant-loop-router
invariant-loop-router l = l.ordered.items ++ l.router-iterator ≡ by_node l.routers
