use Rattle.std.proofs.Common.{◌≡◌, [], drop}
use Rattle.zt_model.specs.Trees.{counted_beside, is_same_link}
use Rattle.zt_link_state.specs.KeysOf.{AreKeysOf, zid_key_eq}
use Rattle.zt_link_state.specs.Lookups.{FindsBehind}
use Rattle.zt_link_state.proofs.counting.counted_links.Given as goal

-- what counts so far, and what is left, make all that counts; what counts is found by face and node id, and the set has its keys
abbrev pub invariant-loop-link : goal.invariant-loop-link
invariant-loop-link l = record {
  counts : counted_beside is_same_link l.counted.items (drop l.link-index l.links) ≡ counted_beside is_same_link [] l.links;
  behind : FindsBehind l.behind.entries l.counted.items;
  zids : AreKeysOf zid_key_eq (λ x. (x.0, x.2)) l.zids.keys l.counted.items;
}
