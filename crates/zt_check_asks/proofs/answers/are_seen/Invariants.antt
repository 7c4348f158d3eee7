use Rattle.std.proofs.Common.{◌≡◌, drop}
use Rattle.zt_check_asks.specs.Answering.{are_seen}
use Rattle.zt_check_asks.proofs.answers.are_seen.Given as goal

-- all so far are
abbrev pub invariant-loop-expr : goal.invariant-loop-expr
invariant-loop-expr g l =
    are_seen g.K.Ord.cmp g.K.Key.matching l.rows l.own l.asked (drop l.expr-index l.exprs)
    ≡ are_seen g.K.Ord.cmp g.K.Key.matching l.rows l.own l.asked l.exprs
