use Rattle.std.proofs.Common.{◌≡◌, ◌++◌, drop}
use Rattle.zt_check_keeping.specs.Changed.{expressions}
use Rattle.zt_check_keeping.proofs.tokens.add_rows.Given as goal

-- those so far, and those that are left, are all
abbrev pub invariant-loop-row : goal.invariant-loop-row
invariant-loop-row g l =
    l.tokens.items ++ expressions l.gateway l.sought (drop l.row-index l.rows) ≡ l.fn.tokens.items ++ expressions l.gateway l.sought l.rows
