use Rattle.std.proofs.Common.{◌==◌, ◌&&◌}
use Rattle.zt_check_hints.specs.Hinted.{KeepsBut}
use Rattle.zt_check_open_faces.proofs.tokens.forget_token.Given as goal

-- other hints stay
abbrev pub invariant-loop-face : goal.invariant-loop-face
invariant-loop-face g l = KeepsBut g.K.Ord.cmp (λ place. l.number == place.face && l.id == place.id) l.fn.declared l.declared
