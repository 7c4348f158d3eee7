use Rattle.std.proofs.Common.{◌≡◌, ◌++◌, map}
use Rattle.zt_interests.specs.Held.{asking_both}
use Rattle.zt_interests.proofs.ordering.InterestsInOrder.into_vec.Given as goal

-- those so far and those left are all
abbrev pub invariant-loop-expr : goal.invariant-loop-expr
invariant-loop-expr g l = l.interests.items ++ map asking_both l.expr-iterator ≡ l.fn.self
