use Rattle.std.proofs.Common.{◌≡◌, ◌++◌}
use Rattle.zt_face.proofs.local_interests.LocalInterests.copy.Given as goal

-- those so far and those left are all
abbrev pub invariant-loop-id : goal.invariant-loop-id
invariant-loop-id g l = l.copies ++ l.id-iterator ≡ l.self
