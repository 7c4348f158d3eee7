use Rattle.std.proofs.Common.{◌≡◌, drop}
use Rattle.std.specs.List.{list_any}
use Rattle.zt_check_open_faces.specs.Found.{passes_at}
use Rattle.zt_check_open_faces.proofs.trying.any_at.Given as goal

-- no face of the numbers so far passes
abbrev pub invariant-loop-number : goal.invariant-loop-number
invariant-loop-number g l =
    list_any (passes_at (g.T.FaceTest.passes l.test) l.faces) (drop l.number-index l.numbers)
    ≡ list_any (passes_at (g.T.FaceTest.passes l.test) l.faces) l.numbers
