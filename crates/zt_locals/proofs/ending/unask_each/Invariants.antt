use Rattle.std.proofs.Common.{◌≡◌, ◌++◌, take, drop, map}
use Rattle.zt_locals.specs.Ending.{unasked}
use Rattle.zt_locals.proofs.ending.unask_each.Given as goal

-- those passed have lost the interest, and those left are as they were
abbrev pub invariant-loop-at : goal.invariant-loop-at
invariant-loop-at g l = l.simple.items ≡ map (unasked l.id) (take l.at l.initial.simple.items) ++ drop l.at l.initial.simple.items
