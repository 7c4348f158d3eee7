use Rattle.std.proofs.Common.{◌==◌, ◌&&◌}
use Rattle.zt_check_hints.specs.Hinted.{KeepsBut}
use Rattle.zt_check_open_faces.proofs.tokens.forget_id.Given as goal

-- other hints stay
abbrev pub invariant-loop-row : goal.invariant-loop-row
invariant-loop-row g l = KeepsBut g.K.Ord.cmp (λ place. l.face == place.face && l.id == place.id) l.fn.declared l.declared
