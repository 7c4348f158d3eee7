use Rattle.std.proofs.Common.{◌≡◌, ◌++◌, drop, flat_map, map}
use Rattle.zt_interests.specs.Untold.{untold_of}
use Rattle.zt_interests.proofs.untelling.untell_all.Given as goal

-- what is told so far, and what the expressions left give, is all
abbrev pub invariant-loop-expr : goal.invariant-loop-expr
invariant-loop-expr g l =
    let rule = untold_of g.K.Ord.cmp g.K.Key.matching l.f in
    l.sends.items ++ map (λ m. (l.face, m)) (flat_map rule (drop l.expr-index l.exprs)) ≡ map (λ m. (l.face, m)) (flat_map rule l.exprs)
