use Rattle.std.proofs.Common.{take}
use Rattle.zt_check_hints.specs.Hinted.{Keeps}
use Rattle.zt_check_open_faces.specs.Found.{AreOfTold}
use Rattle.zt_check_open_faces.proofs.hearing.add_rows.Given as goal

-- the rows so far are hinted
abbrev pub invariant-loop-row : goal.invariant-loop-row
invariant-loop-row g l = record {
  kept : Keeps g.K.Ord.cmp l.fn.told l.told;
  rows : AreOfTold g.K.Ord.cmp l.told l.number (take l.row-index l.rows);
}
