use Rattle.std.proofs.Common.{◌≡◌, ◌++◌, flat_map, map}
use Rattle.zt_tokens.specs.Answered.{answer_of}
use Rattle.zt_tokens.proofs.answering.answer_to.Given as goal

-- what is sent so far, and for the asks left, is all
abbrev pub invariant-loop-under : goal.invariant-loop-under
invariant-loop-under g l =
    let rule = answer_of g.K.Ord.cmp g.K.Key.matching l.face l.id l.expr l.told l.f in
    l.sends.items ++ map (λ m. (l.f.number, m)) (flat_map rule l.under-iterator) ≡ l.fn.sends.items ++ map (λ m. (l.f.number, m)) (flat_map rule l.f.asks)
