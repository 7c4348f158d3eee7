use Rattle.std.proofs.Common.{◌≡◌, ◌++◌, drop, map}
use Rattle.zt_model.specs.Routing.{tokens_from}
use Rattle.zt_interests.proofs.opening.send_tokens.Given as goal

-- what is told so far, and what the tokens left give from the next id on, is all
abbrev pub invariant-loop-expr : goal.invariant-loop-expr
invariant-loop-expr g l =
    l.sends.items ++ map (λ m. (l.face, m)) (tokens_from l.next (drop l.expr-index l.exprs)) ≡ map (λ m. (l.face, m)) (tokens_from l.first l.exprs)
