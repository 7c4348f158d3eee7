use Rattle.std.proofs.Common.{◌≡◌, ◌++◌, drop, filter}
use Rattle.zt_model.specs.Wants.{is_about}
use Rattle.zt_entities.proofs.found.add_queryables.Given as goal

-- what is found so far, and of those left, is all
abbrev pub invariant-loop-queryable : goal.invariant-loop-queryable
invariant-loop-queryable g l =
    l.found.items ++ filter (λ q. is_about g.K.Key.matching l.about q.0) (drop l.queryable-index l.queryables) ≡ l.initial.found.items ++ filter (λ q. is_about g.K.Key.matching l.about q.0) l.queryables
