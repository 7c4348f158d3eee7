-- Who declares the tokens of a region, as a caller is answered.
use Rattle.std.specs.Prelude.{◌≡◌, ◌&&◌, false, not, if◌then◌else◌, List, [], ◌∷◌, map}
use Rattle.std.specs.Ordering.{nat_cmp}
use Rattle.std.specs.declared.cmp.Ordering.{Ordering}
use Rattle.zt_region.specs.declared.region.Region.{Region}
use Rattle.zt_region.specs.declared.region.WhatAmI.{WhatAmI}
use Rattle.zt_region.specs.declared.region.WhatAmI.TheVariants.{Router, Peer, Client}
use Rattle.zt_region.specs.declared.region.Zid.{Zid}
use Rattle.zt_region.specs.Region.{region_eq, whatami_eq, zid_eq}
use Rattle.zt_protocol.specs.declared.errors.CallError.{CallError}
use Rattle.zt_protocol.specs.declared.errors.CallError.TheVariants.{Refused, Memory}
use Rattle.zt_protocol.specs.declared.errors.Refusal.TheVariants.{NoSuchRegion}
use Rattle.zt_model.specs.Hat.{hat}
use Rattle.zt_model.specs.Lists.{same, with_key}
use Rattle.zt_model.specs.Rows.{Face, RoutedRow}
use Rattle.zt_model.specs.Sourced.{PlainSources, SourcedRow, zids_of}
use Rattle.zt_model.specs.Strategy.{Strategy, is_region_of}
use Rattle.zt_gateway.specs.declared.sourced.Sources.{Sources}

abbrev pub plain_sources : Sources → PlainSources
plain_sources s = record { routers = s.routers.items; peers = s.peers.items; clients = s.clients.items }

abbrev pub plain_found : {K : Type 0} → List (K × Sources) → List (K × PlainSources)
plain_found found = map (λ row. (row.0, plain_sources row.1)) found

-- an error of a question about a region: memory ran out, or the gateway has no such region
abbrev pub IsUnknownRegion : List Region → Region → CallError → Type 0
IsUnknownRegion regions region Memory = Unit {0}
IsUnknownRegion regions region (Refused r) = (r ≡ NoSuchRegion) × (is_region_of regions region ≡ false)

-- the rows of a face, where it is of the region, which has this strategy
abbrev pub face_rows : {K : Type 0} → Strategy → Region → Face K → List (SourcedRow K)
face_rows strategy region f = if region_eq f.region region then map (λ row. record { kind = (hat strategy).kind_of f.mode; zid = f.zid; expr = row.1 }) f.live else []

-- a router's token
abbrev pub router_row : {K : Type 0} → Zid → K → SourcedRow K
router_row source e = record { kind = Router; zid = source; expr = e }

-- a router's row, where it is of the region and not under the gateway's own zid
abbrev pub router_rows : {K : Type 0} → Zid → Region → RoutedRow K → List (SourcedRow K)
router_rows own region row = if region_eq row.region region && not (zid_eq row.source own) then record { kind = Router; zid = row.source; expr = row.expr } ∷ [] else []

-- a declarer of this kind in its place among zids in order
abbrev pub with_zid : {K : Type 0} → (K → K → Ordering) → WhatAmI → K → SourcedRow K → List Zid → List Zid
with_zid cmp kind e row zids = if whatami_eq kind row.kind && same cmp e row.expr then with_key (λ a b. nat_cmp a.0 b.0) row.zid zids else zids

-- who declares an expression, among these rows
abbrev pub sources_of : {K : Type 0} → (K → K → Ordering) → List (SourcedRow K) → K → PlainSources
sources_of cmp rows e = record { routers = zids_of cmp Router e rows; peers = zids_of cmp Peer e rows; clients = zids_of cmp Client e rows }
