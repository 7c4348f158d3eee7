use Rattle.std.proofs.Common.{◌≡◌, drop}
use Rattle.zt_model.specs.Lists.{in_key_order}
use Rattle.zt_entities.proofs.subscribers.in_key_order.Given as goal

-- the expressions from the place on are in order
abbrev pub invariant-loop-place : goal.invariant-loop-place
invariant-loop-place g l = l.keys ≡ in_key_order g.K.Ord.cmp (drop l.place l.exprs)
