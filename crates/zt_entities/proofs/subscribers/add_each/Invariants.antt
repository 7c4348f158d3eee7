use Rattle.std.proofs.Common.{◌≡◌, ◌++◌, drop, map}
use Rattle.zt_model.specs.Entities.{subscriber_of}
use Rattle.zt_entities.proofs.subscribers.add_each.Given as goal

-- what is sent so far, and of the expressions left, is all
abbrev pub invariant-loop-expr : goal.invariant-loop-expr
invariant-loop-expr g l =
    l.sends.items ++ map (λ m. (l.face, m)) (map (subscriber_of g.K.Ord.cmp l.g l.id) (drop l.expr-index l.exprs))
    ≡ l.initial.sends.items ++ map (λ m. (l.face, m)) (map (subscriber_of g.K.Ord.cmp l.g l.id) l.exprs)
