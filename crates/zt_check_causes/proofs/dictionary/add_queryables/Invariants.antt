use Rattle.std.proofs.Common.{◌≡◌, ◌++◌, drop, map}
use Rattle.zt_model.specs.Entities.{numbered_with}
use Rattle.zt_check_causes.proofs.dictionary.add_queryables.Given as goal

-- with those that are left, all are there
abbrev pub invariant-loop-queryable : goal.invariant-loop-queryable
invariant-loop-queryable g l =
    numbered_with g.K.Ord.cmp (map (λ q. q.0) (drop l.queryable-index l.queryables)) (l.known ++ l.added.items)
    ≡ numbered_with g.K.Ord.cmp (map (λ q. q.0) l.queryables) (l.known ++ l.fn.added.items)
