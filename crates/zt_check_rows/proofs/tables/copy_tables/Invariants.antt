use Rattle.std.proofs.Common.{◌≡◌, take}
use Rattle.zt_check_rows.proofs.tables.copy_tables.Given as goal

-- those so far are copied
abbrev pub invariant-loop-table : goal.invariant-loop-table
invariant-loop-table l = l.copies.items ≡ take l.table-index l.trees
