use Rattle.std.proofs.Common.{◌≡◌, ◌++◌, drop}
use Rattle.zt_model.specs.Entities.{numbered_with}
use Rattle.zt_check_causes.proofs.dictionary.add_subscribers.Given as goal

-- with those that are left, all are there
abbrev pub invariant-loop-expr : goal.invariant-loop-expr
invariant-loop-expr g l =
    numbered_with g.K.Ord.cmp (drop l.expr-index l.subscribers) (l.known ++ l.added.items)
    ≡ numbered_with g.K.Ord.cmp l.subscribers (l.known ++ l.fn.added.items)
