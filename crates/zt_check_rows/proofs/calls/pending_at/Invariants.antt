use Rattle.std.proofs.Common.{◌≡◌, drop}
use Rattle.zt_model.specs.Lists.{at_id}
use Rattle.zt_check_rows.proofs.calls.pending_at.Given as goal

-- no row so far has the id
abbrev pub invariant-loop-row : goal.invariant-loop-row
invariant-loop-row l = at_id l.id (drop l.row-index l.pendings) ≡ at_id l.id l.pendings
