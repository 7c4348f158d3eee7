use Rattle.std.proofs.Common.{take}
use Rattle.zt_check_hints.specs.Hinted.{Keeps}
use Rattle.zt_check_open_faces.specs.Places.{AreOfFace}
use Rattle.zt_check_open_faces.proofs.tokens.add_rows.Given as goal

-- the rows so far are hinted
abbrev pub invariant-loop-row : goal.invariant-loop-row
invariant-loop-row g l = record {
  kept : Keeps g.K.Ord.cmp l.fn.declared l.declared;
  rows : AreOfFace g.K.Ord.cmp l.declared l.face (take l.row-index l.rows);
}
