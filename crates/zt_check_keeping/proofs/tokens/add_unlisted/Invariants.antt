use Rattle.std.proofs.Common.{◌≡◌, ◌++◌, drop}
use Rattle.zt_model.specs.Trees.{counted_table}
use Rattle.zt_check_keeping.specs.Changed.{unlisted}
use Rattle.zt_check_keeping.proofs.tokens.add_unlisted.Given as goal

-- those so far, and those that are left, are all
abbrev pub invariant-loop-row : goal.invariant-loop-row
invariant-loop-row g l =
    l.tokens.items ++ unlisted l.gateway l.region (counted_table l.table) (drop l.row-index l.rows) ≡ l.fn.tokens.items ++ unlisted l.gateway l.region (counted_table l.table) l.rows
