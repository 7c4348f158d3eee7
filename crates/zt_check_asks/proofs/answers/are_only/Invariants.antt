use Rattle.std.proofs.Common.{◌≡◌, drop}
use Rattle.std.specs.List.{list_all}
use Rattle.zt_model.specs.Lists.{same}
use Rattle.zt_check_asks.proofs.answers.are_only.Given as goal

-- all so far are
abbrev pub invariant-loop-answer : goal.invariant-loop-answer
invariant-loop-answer g l =
    list_all (same g.K.Ord.cmp l.expr) (drop l.answer-index l.answers)
    ≡ list_all (same g.K.Ord.cmp l.expr) l.answers
