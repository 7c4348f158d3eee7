use Rattle.std.proofs.Common.{◌≡◌, ◌++◌, drop}
use Rattle.zt_model.specs.Entities.{numbered_with}
use Rattle.zt_refusals.proofs.dictionary.add_subscribers.Given as goal

-- what is added so far, and then what is left, is all
abbrev pub invariant-loop-expr : goal.invariant-loop-expr
invariant-loop-expr g l =
    numbered_with g.K.Ord.cmp (drop l.expr-index l.subscribers) (l.known ++ l.fresh)
    ≡ numbered_with g.K.Ord.cmp l.subscribers (l.known ++ l.initial.fresh)
