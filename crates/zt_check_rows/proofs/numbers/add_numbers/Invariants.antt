use Rattle.std.proofs.Common.{◌≡◌, drop}
use Rattle.zt_model.specs.Entities.{numbered_with}
use Rattle.zt_check_rows.proofs.numbers.add_numbers.Given as goal

-- those so far have numbers, and the others get theirs
abbrev pub invariant-loop-expr : goal.invariant-loop-expr
invariant-loop-expr g l =
    numbered_with g.K.Ord.cmp (drop l.expr-index l.exprs) l.known.items
    ≡ numbered_with g.K.Ord.cmp l.exprs l.fn.known.items
