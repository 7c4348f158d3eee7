-- The gateway's own rows of an expression that is gone.
use Rattle.std.specs.Prelude.{Bool, ◌&&◌, List, map, filter}
use Rattle.std.specs.declared.cmp.Ordering.{Ordering}
use Rattle.zt_region.specs.declared.region.Region.{Region}
use Rattle.zt_region.specs.declared.region.Zid.{Zid}
use Rattle.zt_region.specs.Region.{zid_eq}
use Rattle.zt_model.specs.Lists.{same}
use Rattle.zt_model.specs.Rows.{RoutedRow, Rows}
use Rattle.zt_model.specs.Trees.{is_hidden}

module _ {K : Type 0} (cmp : K → K → Ordering) where
  -- a row of this router and expression
  abbrev pub is_own_of : Zid → K → RoutedRow K → Bool
  is_own_of zid e row = zid_eq row.source zid && same cmp e row.expr

  -- the regions of the gateway's own rows of the expression, where these can't see it any more
  abbrev pub hidden_among : Rows K → Region → K → List (RoutedRow K) → List Region
  hidden_among g source e rows = map (λ row. row.region) (filter (λ row. is_own_of g.zid e row && is_hidden cmp g source e row.region) rows)
