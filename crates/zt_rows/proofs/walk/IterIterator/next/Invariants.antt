use Rattle.std.proofs.Common.{◌≡◌, ◌++◌, length}
use Rattle.zt_rows.specs.Places.{rows_in}
use Rattle.zt_rows.proofs.walk.IterIterator.next.Given as goal

-- no row was passed over
abbrev pub invariant-loop-places : goal.invariant-loop-places
invariant-loop-places g l = rows_in l.self-inside.places.now ++ l.self-inside.mapped ≡ l.fn.self

abbrev pub decreases-loop-places : goal.decreases-loop-places
decreases-loop-places g l = length l.self-inside.places.now
