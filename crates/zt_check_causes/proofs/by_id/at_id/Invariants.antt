use Rattle.std.proofs.Common.{◌≡◌, drop}
use Rattle.zt_model.specs.Lists.{at_id}
use Rattle.zt_check_causes.proofs.by_id.at_id.Given as goal

-- no row so far has the id
abbrev pub invariant-loop-row : goal.invariant-loop-row
invariant-loop-row g l = at_id l.id (drop l.row-index l.rows) ≡ at_id l.id l.rows
