use Rattle.std.proofs.Common.{◌≡◌, ◌++◌, drop, map}
use Rattle.zt_gateway.specs.Declarers.{plain_found, sources_of}
use Rattle.zt_gateway.proofs.sourced.list_sources.Given as goal

-- what is found so far, and for the expressions left, is all
abbrev pub invariant-loop-expr : goal.invariant-loop-expr
invariant-loop-expr g l =
    plain_found l.found.items ++ map (λ e. (e, sources_of g.K.Ord.cmp l.rows e)) (drop l.expr-index l.exprs)
    ≡ map (λ e. (e, sources_of g.K.Ord.cmp l.rows e)) l.exprs
