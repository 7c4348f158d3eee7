use Rattle.std.proofs.Common.{◌≡◌, drop}
use Rattle.zt_region.specs.Region.{region_eq}
use Rattle.zt_model.specs.Lists.{first_where}
use Rattle.zt_check_rows.proofs.routes.find_table.Given as goal

-- no table so far is the region's
abbrev pub invariant-loop-row : goal.invariant-loop-row
invariant-loop-row l =
    first_where (λ t. region_eq l.region t.0) (drop l.row-index l.trees)
    ≡ first_where (λ t. region_eq l.region t.0) l.trees
