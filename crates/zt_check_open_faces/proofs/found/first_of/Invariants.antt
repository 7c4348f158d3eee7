use Rattle.std.proofs.Common.{◌≡◌, ◌==◌, drop}
use Rattle.zt_model.specs.Lists.{first_where}
use Rattle.zt_check_open_faces.proofs.found.first_of.Given as goal

-- no face so far has the number
abbrev pub invariant-loop-face : goal.invariant-loop-face
invariant-loop-face g l =
    first_where (λ f. l.number == f.number) (drop l.face-index l.faces)
    ≡ first_where (λ f. l.number == f.number) l.faces
