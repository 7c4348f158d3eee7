use Rattle.std.proofs.Common.{◌==◌}
use Rattle.zt_check_hints.specs.Hinted.{KeepsBut}
use Rattle.zt_check_open_faces.proofs.hearing.forget_told.Given as goal

-- hints of other faces stay
abbrev pub invariant-loop-face : goal.invariant-loop-face
invariant-loop-face g l = KeepsBut g.K.Ord.cmp (λ n. l.number == n) l.fn.told l.told
