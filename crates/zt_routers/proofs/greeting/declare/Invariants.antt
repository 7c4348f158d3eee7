use Rattle.std.proofs.Common.{◌≡◌, ◌++◌, drop, map}
use Rattle.zt_routers.specs.Greeting.{declared}
use Rattle.zt_routers.proofs.greeting.declare.Given as goal

-- what is sent so far, and of the tokens left, is all
abbrev pub invariant-loop-expr : goal.invariant-loop-expr
invariant-loop-expr g l =
    l.sends.items ++ map (λ m. (l.f.number, m)) (declared l.node_id (drop l.expr-index l.exprs))
    ≡ l.initial.sends.items ++ map (λ m. (l.f.number, m)) (declared l.node_id l.exprs)
