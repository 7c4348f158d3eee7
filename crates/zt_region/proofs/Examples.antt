-- Worked values of the definitions that the tests leave out: filters, and subregions in their order.
use Rattle.std.specs.Prelude.{◌≡◌, ℕ, true, false, Some, None, Ok, Err, List, [], ◌∷◌, map, codes, refl}
use Rattle.zt_region.specs.declared.region.WhatAmI.{WhatAmI}
use Rattle.zt_region.specs.declared.region.WhatAmI.TheVariants.{Router, Peer, Client}
use Rattle.zt_region.specs.declared.region.Zid.{Zid}
use Rattle.zt_region.specs.declared.region.Bound.TheVariants.{North as NorthBound, South as SouthBound}
use Rattle.zt_region.specs.declared.region.Region.TheVariants.{South}
use Rattle.zt_region.specs.declared.region.RegionError.TheVariants.{RouterUnderNonRouter}
use Rattle.zt_region.specs.South.{PlainPeer, PlainFilter, PlainSouth, filter_holds, subregion_matches, transient_region, transient_bound}
use Rattle.zt_region.specs.Tables.{region_of}

abbrev node : ℕ → Zid
node n = record { 0 = n }

-- a node without links and region name
abbrev bare : ℕ → WhatAmI → PlainPeer
bare n m = record { zid = node n; whatami = m; links = []; region_name = None }

-- a peer over two links
abbrev lab : PlainPeer
lab = record {
  zid = node 7;
  whatami = Peer;
  links = (codes "eth0" ∷ codes "lo" ∷ []) ∷ (codes "eth0" ∷ []) ∷ [];
  region_name = Some (codes "lab");
}

abbrev no_parts : PlainFilter
no_parts = record { zids = None; interfaces = None; modes = None; region_names = None; negated = false }

abbrev with_zids : List Zid → PlainFilter
with_zids listed = record no_parts { zids = Some listed }

abbrev with_modes : List WhatAmI → PlainFilter
with_modes listed = record no_parts { modes = Some listed }

abbrev with_interfaces : List (List ℕ) → PlainFilter
with_interfaces listed = record no_parts { interfaces = Some listed }

abbrev with_names : List (List ℕ) → PlainFilter
with_names listed = record no_parts { region_names = Some listed }

abbrev filters : List PlainFilter
filters =
    no_parts
    ∷ with_zids (node 1 ∷ node 7 ∷ [])
    ∷ with_zids (node 1 ∷ [])
    ∷ with_zids []
    ∷ with_modes (Peer ∷ [])
    ∷ with_interfaces (codes "lo" ∷ codes "eth0" ∷ codes "wlan0" ∷ [])
    ∷ with_interfaces (codes "eth0" ∷ [])
    ∷ with_names (codes "hall" ∷ codes "lab" ∷ [])
    ∷ with_names (codes "la" ∷ codes "labs" ∷ [])
    ∷ record (with_names (codes "lab" ∷ [])) { modes = Some (Router ∷ Client ∷ []) }
    ∷ []

filters_of_lab :
    map (λ f. filter_holds f lab) filters
    ≡ true ∷ true ∷ false ∷ false ∷ true ∷ true ∷ false ∷ true ∷ false ∷ false ∷ []
filters_of_lab = refl

negated_filters_of_lab :
    map (λ (f : PlainFilter). filter_holds (record f { negated = true }) lab) filters
    ≡ false ∷ false ∷ true ∷ true ∷ false ∷ false ∷ true ∷ false ∷ true ∷ true ∷ []
negated_filters_of_lab = refl

filters_of_a_bare_client :
    map (λ f. filter_holds f (bare 7 Client)) filters
    ≡ true ∷ true ∷ false ∷ false ∷ false ∷ true ∷ true ∷ false ∷ false ∷ false ∷ []
filters_of_a_bare_client = refl

-- subregions for clients, for the zids 7 and 9, and for all that remain
abbrev three : PlainSouth
three =
    Some (Some (with_modes (Client ∷ []) ∷ [])
    ∷ Some (with_zids (node 9 ∷ []) ∷ with_zids (node 7 ∷ []) ∷ [])
    ∷ None
    ∷ [])

places :
    map (λ p. transient_region p Router three) (bare 7 Client ∷ bare 7 Peer ∷ bare 9 Router ∷ bare 8 Peer ∷ [])
    ≡ Ok (Some (South 0 Client)) ∷ Ok (Some (South 1 Peer)) ∷ Ok (Some (South 1 Router)) ∷ Ok (Some (South 2 Peer)) ∷ []
places = refl

-- the configuration `south=mode:client`
abbrev clients : PlainSouth
clients = Some (Some (with_modes (Client ∷ []) ∷ []) ∷ [])

transient_bounds :
    map (λ p. transient_bound p Peer clients) (bare 7 Client ∷ bare 7 Peer ∷ bare 7 Router ∷ [])
    ≡ Ok (Some SouthBound) ∷ Ok (Some NorthBound) ∷ Ok (Some NorthBound) ∷ []
transient_bounds = refl

router_under_peer : transient_bound (bare 9 Router) Peer three ≡ Err RouterUnderNonRouter
router_under_peer = refl

no_filter_holds : subregion_matches (Some []) lab ≡ false
no_filter_holds = refl

agreed_place : region_of (bare 9 Router) Router three (Some NorthBound) ≡ Ok (South 1 Router, NorthBound)
agreed_place = refl
