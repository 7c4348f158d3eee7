use Rattle.std.proofs.Common.{◌≡◌, ◌++◌, [], length}
use Rattle.zt_rows.specs.Places.{rows_in}
use Rattle.zt_rows.proofs.walk.IterDoubleEndedIterator.next_back.Given as goal

-- no row was passed over, and none is left behind those in places
abbrev pub invariant-loop-self : goal.invariant-loop-self
invariant-loop-self g l = (rows_in l.self-inside.places.now ++ l.self-inside.mapped ≡ l.fn.self) × (l.self-inside.mapped ≡ [])

abbrev pub decreases-loop-self : goal.decreases-loop-self
decreases-loop-self g l = length l.self-inside.places.now
