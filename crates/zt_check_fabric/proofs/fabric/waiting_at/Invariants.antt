use Rattle.std.proofs.Common.{◌≡◌, drop}
use Rattle.zt_model.specs.Lists.{at_id}
use Rattle.zt_check_fabric.proofs.fabric.waiting_at.Given as goal

-- no row so far is the face's
abbrev pub invariant-loop-row : goal.invariant-loop-row
invariant-loop-row g l = at_id l.face (drop l.row-index l.waiting) ≡ at_id l.face l.waiting
