use Rattle.std.proofs.Common.{◌≡◌, drop}
use Rattle.zt_model.specs.Lists.{has_id}
use Rattle.zt_check_keeping.proofs.seeking.has_interest.Given as goal

-- none so far
abbrev pub invariant-loop-row : goal.invariant-loop-row
invariant-loop-row g l = has_id l.id (drop l.row-index l.row-items) ≡ has_id l.id l.face.held
