use Rattle.std.proofs.Common.{◌≡◌, ◌==◌, [], drop}
use Rattle.zt_model.specs.Trees.{counted_beside, is_same_router}
use Rattle.zt_link_state.specs.KeysOf.{AreKeysOf}
use Rattle.zt_link_state.specs.Lookups.{FindsNodes}
use Rattle.zt_link_state.proofs.counting.counted_routers.Given as goal

-- what counts so far, and what is left, make all that counts; what counts is found by number, and the set has its node ids
abbrev pub invariant-loop-router : goal.invariant-loop-router
invariant-loop-router l = record {
  counts : counted_beside is_same_router l.counted.items (drop l.router-index l.routers) ≡ counted_beside is_same_router [] l.routers;
  node_ids : AreKeysOf (λ a b. a == b) (λ x. x.0) l.node_ids.keys l.counted.items;
  nodes : FindsNodes l.nodes.entries l.counted.items;
}
