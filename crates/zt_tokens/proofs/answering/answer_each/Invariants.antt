use Rattle.std.proofs.Common.{◌≡◌, ◌++◌}
use Rattle.zt_model.specs.Parts.{to_each}
use Rattle.zt_tokens.specs.Answered.{answer_told}
use Rattle.zt_tokens.proofs.answering.answer_each.Given as goal

-- what is sent so far, and to the faces left, is all
abbrev pub invariant-loop-f : goal.invariant-loop-f
invariant-loop-f g l =
    let rule = answer_told g.K.Ord.cmp g.K.Key.matching l.face l.id l.expr l.told in
    l.sends.items ++ to_each rule l.f-iterator ≡ to_each rule l.g.faces
