use Rattle.std.proofs.Common.{◌≡◌, ◌++◌, map}
use Rattle.zt_model.specs.Entities.{queryable_of}
use Rattle.zt_entities.proofs.queryables.add_all.Given as goal

-- what is sent so far, and of the expressions left, is all
abbrev pub invariant-loop-expr : goal.invariant-loop-expr
invariant-loop-expr g l =
    l.sends.items ++ map (λ m. (l.face, m)) (map (λ q. queryable_of g.K.Ord.cmp l.g l.id q.0 q.1) l.expr-iterator)
    ≡ l.initial.sends.items ++ map (λ m. (l.face, m)) (map (λ q. queryable_of g.K.Ord.cmp l.g l.id q.0 q.1) l.initial.expr-iterator)
