use Rattle.std.proofs.Common.{◌&&◌, not}
use Rattle.zt_region.specs.Region.{region_eq}
use Rattle.zt_model.specs.Trees.{counted_table, is_listed}
use Rattle.zt_check_hints.specs.Hinted.{KeepsBut}
use Rattle.zt_check_rows.proofs.routers.forget_left_out.Given as goal

-- other hints stay
abbrev pub invariant-loop-row : goal.invariant-loop-row
invariant-loop-row g l = KeepsBut g.K.Ord.cmp (λ place. region_eq l.region place.region && not (is_listed place.source (counted_table l.table))) l.fn.places l.places
