use Rattle.std.proofs.Common.{◌≡◌, ◌&&◌, drop}
use Rattle.std.specs.List.{list_any}
use Rattle.zt_region.specs.Admission.{admits}
use Rattle.zt_model.specs.Seen.{sees}
use Rattle.zt_check_rows.specs.Routed.{is_routed_at}
use Rattle.zt_check_rows.proofs.routers.is_shown_in.Given as goal

-- at no place so far one stands
abbrev pub invariant-loop-place : goal.invariant-loop-place
invariant-loop-place g l =
    list_any (is_routed_at g.K.Ord.cmp (λ source. sees l.own source && admits l.refused source l.own) l.zid l.expr l.rows) (drop l.place-index l.places)
    ≡ list_any (is_routed_at g.K.Ord.cmp (λ source. sees l.own source && admits l.refused source l.own) l.zid l.expr l.rows) l.places
