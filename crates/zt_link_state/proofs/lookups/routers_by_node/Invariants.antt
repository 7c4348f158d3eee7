use Rattle.std.proofs.Common.{◌≡◌, drop}
use Rattle.std.specs.BTreeMap.{IsOrdered}
use Rattle.std.specs.Ordering.{nat_cmp}
use Rattle.zt_link_state.specs.Lookups.{by_node}
use Rattle.zt_link_state.proofs.lookups.routers_by_node.Given as goal

-- the routers from the place on are in order
abbrev pub invariant-loop-place : goal.invariant-loop-place
invariant-loop-place l = record {
  routers : l.by_id.entries ≡ by_node (drop l.place l.routers);
  ordered : IsOrdered nat_cmp l.by_id;
}
