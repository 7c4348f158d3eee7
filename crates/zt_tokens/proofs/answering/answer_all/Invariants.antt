use Rattle.std.proofs.Common.{◌≡◌, ◌++◌, drop, map}
use Rattle.zt_model.specs.Telling.{answers_from}
use Rattle.zt_tokens.proofs.answering.answer_all.Given as goal

-- what is answered so far, and for the expressions left, is all
abbrev pub invariant-loop-expr : goal.invariant-loop-expr
invariant-loop-expr g l =
    let cmp = g.K.Ord.cmp in
    let matching = g.K.Key.matching in
    l.sends.items ++ map (λ m. (l.face, m)) (answers_from cmp matching l.next l.f.told l.mode l.id (drop l.expr-index l.exprs)) ≡ map (λ m. (l.face, m)) (answers_from cmp matching l.f.next l.f.told l.mode l.id l.exprs)
