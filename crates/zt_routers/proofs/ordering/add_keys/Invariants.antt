use Rattle.std.proofs.Common.{◌≡◌}
use Rattle.zt_tokens.specs.Gathered.{with_keys}
use Rattle.zt_routers.proofs.ordering.add_keys.Given as goal

-- with those left, from the last on, all are in their places
abbrev pub invariant-loop-key : goal.invariant-loop-key
invariant-loop-key g l = with_keys g.K.Ord.cmp l.key-iterator.iter l.exprs ≡ with_keys g.K.Ord.cmp l.keys.keys l.fn.exprs
