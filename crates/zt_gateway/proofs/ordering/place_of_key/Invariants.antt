use Rattle.std.proofs.Common.{◌≡◌, ◌++◌, drop, take}
use Rattle.zt_model.specs.Lists.{with_key}
use Rattle.zt_gateway.proofs.ordering.place_of_key.Given as goal

-- the key's place is behind those so far
abbrev pub invariant-loop-place : goal.invariant-loop-place
invariant-loop-place g l = with_key g.K.Ord.cmp l.key l.keys ≡ take l.place l.keys ++ with_key g.K.Ord.cmp l.key (drop l.place l.keys)
