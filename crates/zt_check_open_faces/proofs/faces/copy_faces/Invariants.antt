use Rattle.std.proofs.Common.{◌≡◌, take}
use Rattle.zt_check_open_faces.proofs.faces.copy_faces.Given as goal

-- those so far are copied
abbrev pub invariant-loop-face : goal.invariant-loop-face
invariant-loop-face g l = l.copies.items ≡ take l.face-index l.faces
