-- Which tokens a face may know of.
use Rattle.std.specs.Prelude.{Bool, ◌&&◌, ◌||◌, not, List, ◌++◌, map, filter}
use Rattle.std.specs.List.{list_any, flat_map}
use Rattle.std.specs.declared.cmp.Ordering.{Ordering}
use Rattle.zt_region.specs.declared.region.Region.{Region}
use Rattle.zt_region.specs.declared.region.WhatAmI.{WhatAmI}
use Rattle.zt_region.specs.Region.{region_eq, zid_eq}
use Rattle.zt_region.specs.Admission.{admits}
use Rattle.zt_model.specs.Hat.{hat_of}
use Rattle.zt_model.specs.Lists.{same, in_key_order}
use Rattle.zt_model.specs.Rows.{Face, Rows}

-- the tokens that a face declares, under its region
abbrev pub rows_of_face : {K : Type 0} → Face K → List (Region × K)
rows_of_face f = map (λ row. (f.region, row.1)) f.live

-- the tokens of other routers; what the gateway shows by itself is no live row
abbrev pub routed_rows : {K : Type 0} → Rows K → List (Region × K)
routed_rows g = map (λ row. (row.region, row.expr)) (filter (λ row. not (zid_eq row.source g.zid)) g.routed)

-- each live token, under its region
abbrev pub live_rows : {K : Type 0} → Rows K → List (Region × K)
live_rows g = flat_map rows_of_face g.faces ++ routed_rows g

-- Whether a face of this region is shown tokens of that one: of each other region, and where the hat says so of its own
-- too.
abbrev pub shows : WhatAmI → Region → Region → Bool
shows mode own source = (hat_of mode own).shares_tokens || not (region_eq source own)

module _ {K : Type 0} (cmp : K → K → Ordering) where
  -- some live row of the expression is shown to faces of the region
  unfoldable pub is_visible : Rows K → Region → K → Bool
  is_visible g own e = list_any (λ row. same cmp e row.1 && shows g.mode own row.0) (live_rows g)

  -- some such row stands in a region from which the admission table admits
  unfoldable pub is_admitted : Rows K → Region → K → Bool
  is_admitted g own e = list_any (λ row. same cmp e row.1 && (shows g.mode own row.0 && admits g.refused row.0 own)) (live_rows g)

  -- the visible expressions, in key order
  unfoldable pub visible_expressions : Rows K → Region → List K
  visible_expressions g own = in_key_order cmp (map (λ row. row.1) (filter (λ row. shows g.mode own row.0) (live_rows g)))

  -- the face was told the expression and not told that it is gone
  abbrev pub keeps : Face K → K → Bool
  keeps f e = list_any (λ row. same cmp e row.1) f.told
