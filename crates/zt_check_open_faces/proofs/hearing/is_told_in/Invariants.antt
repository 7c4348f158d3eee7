use Rattle.std.proofs.Common.{◌≡◌, drop}
use Rattle.zt_check_open_faces.specs.Found.{passes_at, was_told}
use Rattle.zt_check_open_faces.proofs.hearing.is_told_in.Given as goal

-- no face so far was told
abbrev pub invariant-loop-face : goal.invariant-loop-face
invariant-loop-face g l =
    passes_at (was_told g.K.Ord.cmp l.expr) (drop l.face-index l.faces) l.number
    ≡ passes_at (was_told g.K.Ord.cmp l.expr) l.faces l.number
