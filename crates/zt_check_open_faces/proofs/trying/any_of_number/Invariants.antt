use Rattle.std.proofs.Common.{◌≡◌, drop}
use Rattle.zt_check_open_faces.specs.Found.{passes_at}
use Rattle.zt_check_open_faces.proofs.trying.any_of_number.Given as goal

-- no face so far passes
abbrev pub invariant-loop-face : goal.invariant-loop-face
invariant-loop-face g l =
    passes_at (g.T.FaceTest.passes l.test) (drop l.face-index l.faces) l.number
    ≡ passes_at (g.T.FaceTest.passes l.test) l.faces l.number
