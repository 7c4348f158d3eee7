use Rattle.std.proofs.Common.{◌≡◌, ◌++◌, drop}
use Rattle.zt_check_keeping.specs.Heard.{told_under}
use Rattle.zt_check_keeping.proofs.heard.add_told.Given as goal

-- those so far, and those that are left, are all
abbrev pub invariant-loop-row : goal.invariant-loop-row
invariant-loop-row g l =
    l.tokens.items ++ told_under l.gateway l.number l.id (drop l.row-index l.row-items) ≡ l.fn.tokens.items ++ told_under l.gateway l.number l.id l.face.told
