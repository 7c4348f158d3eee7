use Rattle.std.proofs.Common.{◌≡◌, drop}
use Rattle.zt_model.specs.Entities.{numbered_with}
use Rattle.zt_lookups.proofs.dictionary.Dictionary.number_all.Given as goal

-- with those left all have numbers
abbrev pub invariant-loop-expr : goal.invariant-loop-expr
invariant-loop-expr g l =
    numbered_with g.K.Ord.cmp (drop l.expr-index l.exprs) l.self ≡ numbered_with g.K.Ord.cmp l.exprs l.fn.self
