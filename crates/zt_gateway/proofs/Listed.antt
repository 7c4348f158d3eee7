-- Who declares tokens, row by row.
use Rattle.std.proofs.Common.{◌≡◌, ◌&&◌, true, false, not, List, [], ◌∷◌, map, filter, flat_map, refl, ap}
use Rattle.std.specs.declared.cmp.Ordering.{Ordering}
use Rattle.zt_region.specs.declared.region.Region.{Region}
use Rattle.zt_region.specs.declared.region.WhatAmI.{WhatAmI}
use Rattle.zt_region.specs.declared.region.WhatAmI.TheVariants.{Router}
use Rattle.zt_region.specs.declared.region.Zid.{Zid}
use Rattle.zt_region.specs.Region.{region_eq, whatami_eq, zid_eq}
use Rattle.zt_laws.proofs.Lists.{by_test}
use Rattle.zt_model.specs.Lists.{in_key_order, same}
use Rattle.zt_model.specs.Rows.{RoutedRow, Rows}
use Rattle.zt_model.specs.Sourced.{SourcedRow, rows_sourced, sourced, sourced_by, zids_of}
use Rattle.zt_model.specs.Strategy.{strategy_of}
use Rattle.zt_link_state.specs.Routed.{row_of}
use Rattle.zt_link_state.specs.declared.origin.Origin.{Origin}
use Rattle.zt_gateway.specs.Declarers.{router_row, router_rows, sources_of, with_zid}

-- the rows of a router region
pub router_rows_are : {K : Type 0} (own : Zid) (region : Region) (rows : List (RoutedRow K))
    → flat_map (router_rows own region) rows ≡ map (λ (row : RoutedRow K). record { kind = Router; zid = row.source; expr = row.expr }) (filter (λ row. region_eq row.region region && not (zid_eq row.source own)) rows)
router_rows_are own region [] = refl
router_rows_are {K = K} own region (row ∷ rows) =
    let rest = router_rows_are own region rows in
    let first : SourcedRow K = record { kind = Router; zid = row.source; expr = row.expr } in
    by_test (region_eq row.region region && not (zid_eq row.source own))
    (λ here. rw here (ap (λ ys. first ∷ ys) rest))
    (λ here. rw here rest)

-- the declarers of one kind, with one row more before them
pub zids_of_more : {K : Type 0} (cmp : K → K → Ordering) (kind : WhatAmI) (e : K) (row : SourcedRow K) (rows : List (SourcedRow K))
    → zids_of cmp kind e (row ∷ rows) ≡ with_zid cmp kind e row (zids_of cmp kind e rows)
zids_of_more cmp kind e row rows =
    by_test (whatami_eq kind row.kind && same cmp e row.expr) (λ here. rw here refl) (λ here. rw here refl)

-- each expression of a region with who declares it
pub sourced_is : {K : Type 0} (cmp : K → K → Ordering) (g : Rows K) (region : Region)
    → map (λ e. (e, sources_of cmp (rows_sourced cmp (strategy_of g.mode region) g region) e)) (in_key_order cmp (map (λ (row : SourcedRow K). row.expr) (rows_sourced cmp (strategy_of g.mode region) g region))) ≡ sourced cmp g region
unfolding sourced_by
sourced_is cmp g region = refl

-- an origin's rows are a router's tokens, or none
pub origin-rows : {K : Type 0} (own : Zid) (region : Region) (o : Origin) → region_eq o.region region ≡ true → zid_eq o.source own ≡ false → (ks : List K) → flat_map (router_rows own region) (map (row_of o) ks) ≡ map (router_row o.source) ks
origin-rows own region o here other [] = refl
origin-rows own region o here other (k ∷ ks) = rw (here, other) (ap (λ rows. router_row o.source k ∷ rows) (origin-rows own region o here other ks))

pub no-origin-rows : {K : Type 0} (own : Zid) (region : Region) (o : Origin) → (region_eq o.region region && not (zid_eq o.source own)) ≡ false → (ks : List K) → flat_map (router_rows own region) (map (row_of o) ks) ≡ []
no-origin-rows own region o apart [] = refl
no-origin-rows own region o apart (k ∷ ks) = rw apart (no-origin-rows own region o apart ks)
