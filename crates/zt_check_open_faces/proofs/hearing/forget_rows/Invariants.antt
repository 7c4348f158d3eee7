use Rattle.std.proofs.Common.{◌==◌}
use Rattle.zt_check_hints.specs.Hinted.{KeepsBut}
use Rattle.zt_check_open_faces.proofs.hearing.forget_rows.Given as goal

-- hints of other faces stay
abbrev pub invariant-loop-row : goal.invariant-loop-row
invariant-loop-row g l = KeepsBut g.K.Ord.cmp (λ n. l.number == n) l.fn.told l.told
