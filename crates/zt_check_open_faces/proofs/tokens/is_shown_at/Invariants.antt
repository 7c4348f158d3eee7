use Rattle.std.proofs.Common.{◌≡◌, ◌&&◌, drop}
use Rattle.std.specs.List.{list_any}
use Rattle.zt_region.specs.Admission.{admits}
use Rattle.zt_model.specs.Seen.{sees}
use Rattle.zt_check_open_faces.specs.Places.{is_declared_at}
use Rattle.zt_check_open_faces.proofs.tokens.is_shown_at.Given as goal

-- at no place so far one stands
abbrev pub invariant-loop-place : goal.invariant-loop-place
invariant-loop-place g l =
    list_any (is_declared_at g.K.Ord.cmp (λ source. sees l.own source && admits l.refused source l.own) l.expr l.faces) (drop l.place-index l.places)
    ≡ list_any (is_declared_at g.K.Ord.cmp (λ source. sees l.own source && admits l.refused source l.own) l.expr l.faces) l.places
