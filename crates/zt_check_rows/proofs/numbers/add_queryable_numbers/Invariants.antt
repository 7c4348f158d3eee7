use Rattle.std.proofs.Common.{◌≡◌, drop, map}
use Rattle.zt_model.specs.Entities.{numbered_with}
use Rattle.zt_check_rows.proofs.numbers.add_queryable_numbers.Given as goal

-- those so far have numbers, and the others get theirs
abbrev pub invariant-loop-queryable : goal.invariant-loop-queryable
invariant-loop-queryable g l =
    numbered_with g.K.Ord.cmp (map (λ q. q.0) (drop l.queryable-index l.queryables)) l.known.items
    ≡ numbered_with g.K.Ord.cmp (map (λ q. q.0) l.queryables) l.fn.known.items
