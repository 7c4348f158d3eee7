use Rattle.std.proofs.Common.{◌≡◌, ◌++◌, drop}
use Rattle.zt_check_keeping.specs.Changed.{declared}
use Rattle.zt_check_keeping.proofs.tokens.add_declared.Given as goal

-- those so far, and those that are left, are all
abbrev pub invariant-loop-face : goal.invariant-loop-face
invariant-loop-face g l =
    l.tokens.items ++ declared l.gateway l.number l.sought (drop l.face-index l.face-items) ≡ l.fn.tokens.items ++ declared l.gateway l.number l.sought l.rows.faces
