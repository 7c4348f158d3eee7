use Rattle.std.proofs.Common.{◌≡◌, [], map}
use Rattle.zt_rows.specs.Places.{rows_in}
use Rattle.zt_tokens.specs.Gathered.{with_keys}
use Rattle.zt_interests.proofs.untelling.told_in_order.Given as goal

-- with those left, from the last on, all are in their places
abbrev pub invariant-loop-place : goal.invariant-loop-place
invariant-loop-place g l = with_keys g.K.Ord.cmp (map (λ row. row.1) (rows_in l.place-iterator.iter.rest.now)) l.exprs ≡ with_keys g.K.Ord.cmp (map (λ row. row.1) l.f.told) []
