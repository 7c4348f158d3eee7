-- The expressions of rows that a table leaves out.
use Rattle.std.specs.Prelude.{List, filter, map}
use Rattle.std.specs.declared.cmp.Ordering.{Ordering}
use Rattle.zt_region.specs.declared.region.Region.{Region}
use Rattle.zt_protocol.specs.Plain.{Trees}
use Rattle.zt_model.specs.Rows.{RoutedRow}
use Rattle.zt_model.specs.Trees.{is_left_out}

-- of those rows of the region whose source the table doesn't list
abbrev pub exprs_left_out : {K : Type 0} → (K → K → Ordering) → Region → Trees → List (RoutedRow K) → List K
exprs_left_out cmp region t rows = map (λ row. row.expr) (filter (is_left_out cmp region t) rows)
