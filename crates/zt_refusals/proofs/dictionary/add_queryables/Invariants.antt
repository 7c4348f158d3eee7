use Rattle.std.proofs.Common.{◌≡◌, ◌++◌, drop, map}
use Rattle.zt_model.specs.Entities.{numbered_with}
use Rattle.zt_refusals.proofs.dictionary.add_queryables.Given as goal

-- what is added so far, and then what is left, is all
abbrev pub invariant-loop-queryable : goal.invariant-loop-queryable
invariant-loop-queryable g l =
    numbered_with g.K.Ord.cmp (map (λ q. q.0) (drop l.queryable-index l.queryables)) (l.known ++ l.fresh)
    ≡ numbered_with g.K.Ord.cmp (map (λ q. q.0) l.queryables) (l.known ++ l.initial.fresh)
