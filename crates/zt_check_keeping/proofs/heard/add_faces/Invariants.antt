use Rattle.std.proofs.Common.{◌≡◌, ◌++◌, drop}
use Rattle.zt_check_keeping.specs.Heard.{heard_among}
use Rattle.zt_check_keeping.proofs.heard.add_faces.Given as goal

-- those so far, and those that are left, are all
abbrev pub invariant-loop-face : goal.invariant-loop-face
invariant-loop-face g l =
    l.tokens.items ++ heard_among l.gateway l.number l.message (drop l.face-index l.face-items) ≡ l.fn.tokens.items ++ heard_among l.gateway l.number l.message l.rows.faces
