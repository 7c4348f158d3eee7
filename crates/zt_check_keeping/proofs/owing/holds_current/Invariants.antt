use Rattle.std.proofs.Common.{◌≡◌, drop}
use Rattle.zt_check_keeping.specs.Owing.{holds_current}
use Rattle.zt_check_keeping.proofs.owing.holds_current.Given as goal

-- none so far did
abbrev pub invariant-loop-row : goal.invariant-loop-row
invariant-loop-row g l = holds_current (drop l.row-index l.held) ≡ holds_current l.held
