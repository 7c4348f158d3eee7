-- The gateway's own rows in given regions, and the rows of routers that a table lists.
use Rattle.std.specs.Prelude.{Bool, ◌&&◌, not, List, filter}
use Rattle.std.specs.List.{list_any}
use Rattle.std.specs.declared.cmp.Ordering.{Ordering}
use Rattle.zt_region.specs.Region.{region_eq, zid_eq}
use Rattle.zt_region.specs.declared.region.Region.{Region}
use Rattle.zt_region.specs.declared.region.Zid.{Zid}
use Rattle.zt_model.specs.Lists.{same}
use Rattle.zt_protocol.specs.Plain.{Trees}
use Rattle.zt_model.specs.Rows.{RoutedRow, Rows}
use Rattle.zt_model.specs.Trees.{is_left_out}

module _ {K : Type 0} (cmp : K → K → Ordering) where
  -- a row of the gateway of this number, of the expression, in one of the regions
  abbrev pub is_own_in : Zid → List Region → K → RoutedRow K → Bool
  is_own_in zid regions e row = zid_eq row.source zid && (same cmp e row.expr && list_any (region_eq row.region) regions)

  -- the gateway without its own rows of the expression in these regions
  abbrev pub without_own_in : List Region → K → Rows K → Rows K
  without_own_in regions e g = record g { routed = filter (λ row. not (is_own_in g.zid regions e row)) g.routed }

  -- the rows but those of the region whose source the table doesn't list
  abbrev pub listed_rows : Region → Trees → List (RoutedRow K) → List (RoutedRow K)
  listed_rows region t rows = filter (λ row. not (is_left_out cmp region t row)) rows
