use Rattle.std.proofs.Common.{◌≡◌, [], drop}
use Rattle.zt_model.specs.Trees.{counted_beside}
use Rattle.zt_check_tables.proofs.counting.counted.Given as goal

-- what counts so far, and what of the others counts beside, is all that counts
abbrev pub invariant-loop-entry : goal.invariant-loop-entry
invariant-loop-entry g l =
    counted_beside g.E.Entry.clash l.counted.items (drop l.entry-index l.entries)
    ≡ counted_beside g.E.Entry.clash [] l.entries
