use Rattle.std.proofs.Common.{◌≡◌, map}
use Rattle.zt_model.specs.Routing.{interest_order}
use Rattle.zt_interests.specs.Held.{in_both}
use Rattle.zt_tokens.specs.Gathered.{with_keys}
use Rattle.zt_interests.proofs.opening.insert_rows.Given as goal

-- with those left, from the last on, all are in their places
abbrev pub invariant-loop-interest : goal.invariant-loop-interest
invariant-loop-interest g l =
    with_keys (interest_order g.K.Ord.cmp g.K.Key.matching) (map (λ row. in_both row.1) l.interest-iterator.iter) l.interests
    ≡ with_keys (interest_order g.K.Ord.cmp g.K.Key.matching) (map (λ row. in_both row.1) l.rows) l.fn.interests
