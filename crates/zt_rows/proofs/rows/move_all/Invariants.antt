use Rattle.std.proofs.Common.{◌≡◌, ◌++◌, length}
use Rattle.zt_rows.specs.Places.{AreRising, rows_in}
use Rattle.zt_rows.proofs.rows.move_all.Given as goal

-- the rows are those of before, some of them in the map
abbrev pub invariant-loop-last : goal.invariant-loop-last
invariant-loop-last g l = (rows_in l.places.items ++ l.mapped.entries ≡ rows_in l.initial.places.items ++ l.initial.mapped.entries) × AreRising l.places.items

abbrev pub decreases-loop-last : goal.decreases-loop-last
decreases-loop-last g l = length l.places.items
