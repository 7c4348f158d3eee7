use Rattle.std.proofs.Common.{◌≡◌, drop}
use Rattle.zt_check_keeping.specs.Changed.{is_holding}
use Rattle.zt_check_keeping.proofs.seeking.is_holding.Given as goal

-- none so far
abbrev pub invariant-loop-face : goal.invariant-loop-face
invariant-loop-face g l = is_holding l.number l.id (drop l.face-index l.face-items) ≡ is_holding l.number l.id l.rows.faces
