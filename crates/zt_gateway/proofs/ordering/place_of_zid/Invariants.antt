use Rattle.std.proofs.Common.{◌≡◌, ◌++◌, drop, take}
use Rattle.std.specs.Ordering.{nat_cmp}
use Rattle.zt_model.specs.Lists.{with_key}
use Rattle.zt_gateway.proofs.ordering.place_of_zid.Given as goal

-- the zid's place is behind those so far
abbrev pub invariant-loop-place : goal.invariant-loop-place
invariant-loop-place l = with_key (λ a b. nat_cmp a.0 b.0) l.zid l.zids ≡ take l.place l.zids ++ with_key (λ a b. nat_cmp a.0 b.0) l.zid (drop l.place l.zids)
