use Rattle.std.proofs.Common.{◌≡◌, ◌&&◌, drop}
use Rattle.zt_region.specs.Admission.{admits}
use Rattle.zt_model.specs.Seen.{sees}
use Rattle.zt_check_open_faces.specs.Places.{is_declared_at}
use Rattle.zt_check_open_faces.proofs.tokens.is_shown_in.Given as goal

-- no face so far does
abbrev pub invariant-loop-face : goal.invariant-loop-face
invariant-loop-face g l =
    is_declared_at g.K.Ord.cmp (λ source. sees l.own source && admits l.refused source l.own) l.expr (drop l.face-index l.faces) l.place
    ≡ is_declared_at g.K.Ord.cmp (λ source. sees l.own source && admits l.refused source l.own) l.expr l.faces l.place
