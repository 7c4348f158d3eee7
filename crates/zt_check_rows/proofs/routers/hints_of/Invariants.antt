use Rattle.std.proofs.Common.{take}
use Rattle.zt_check_rows.specs.Routed.{AreRouted}
use Rattle.zt_check_rows.proofs.routers.hints_of.Given as goal

-- the rows so far are hinted
abbrev pub invariant-loop-row : goal.invariant-loop-row
invariant-loop-row g l = AreRouted g.K.Ord.cmp l.places (take l.row-index l.rows)
