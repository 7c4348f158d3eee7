-- South configuration: which subregion a peer belongs to. Peers and configurations stand here in
-- plain form: lists in place of `Vec`, bytes in place of `String`.
use Rattle.std.specs.Prelude.{ℕ, Bool, true, false, ◌&&◌, not, if◌then◌else◌, Option, Some, None, Result, Ok, Err, List, map, length, position, string_bytes}
use Rattle.std.specs.Option.{option_map, option_map_or}
use Rattle.std.specs.Result.{result_map_both}
use Rattle.std.specs.List.{list_any, list_all}
use Rattle.std.specs.Str.{bytes_eq}
use Rattle.zt_region.specs.declared.region.WhatAmI.{WhatAmI}
use Rattle.zt_region.specs.declared.region.WhatAmI.TheVariants.{Router}
use Rattle.zt_region.specs.declared.region.Zid.{Zid}
use Rattle.zt_region.specs.declared.region.Bound.{Bound}
use Rattle.zt_region.specs.declared.region.Region.{Region}
use Rattle.zt_region.specs.declared.region.Region.TheVariants.{North, South}
use Rattle.zt_region.specs.declared.region.RegionError.{RegionError}
use Rattle.zt_region.specs.declared.region.RegionError.TheVariants.{RouterUnderNonRouter}
use Rattle.zt_region.specs.declared.region.Interfaces.{Interfaces}
use Rattle.zt_region.specs.declared.region.TransportPeer.{TransportPeer}
use Rattle.zt_region.specs.declared.region.Filter.{Filter}
use Rattle.zt_region.specs.declared.region.Subregion.{Subregion}
use Rattle.zt_region.specs.declared.region.SouthConf.{SouthConf}
use Rattle.zt_region.specs.declared.region.SouthConf.TheVariants.{Auto, Custom}
use Rattle.zt_region.specs.Region.{whatami_eq, zid_eq, bound_of}

-- ---- plain forms

-- a peer: for each of its links the names of the link's interfaces
pub record PlainPeer : Type 0 where
  pub zid : Zid
  pub whatami : WhatAmI
  pub links : List (List (List ℕ))
  pub region_name : Option (List ℕ)

pub record PlainFilter : Type 0 where
  pub zids : Option (List Zid)
  pub interfaces : Option (List (List ℕ))
  pub modes : Option (List WhatAmI)
  pub region_names : Option (List (List ℕ))
  pub negated : Bool

-- a subregion's filters, if it has any
abbrev pub PlainSubregion : Type 0
PlainSubregion = Option (List PlainFilter)

-- the subregions, or `None` for automatic regions
abbrev pub PlainSouth : Type 0
PlainSouth = Option (List PlainSubregion)

abbrev pub plain_link : Interfaces → List (List ℕ)
plain_link link = map string_bytes link.names.items

abbrev pub plain_peer : TransportPeer → PlainPeer
plain_peer peer = record {
  zid = peer.zid;
  whatami = peer.whatami;
  links = map plain_link peer.links.items;
  region_name = option_map string_bytes peer.region_name;
}

abbrev pub plain_filter : Filter → PlainFilter
plain_filter f = record {
  zids = option_map (λ v. v.items) f.zids;
  interfaces = option_map (λ v. map string_bytes v.items) f.interfaces;
  modes = option_map (λ v. v.items) f.modes;
  region_names = option_map (λ v. map string_bytes v.items) f.region_names;
  negated = f.negated;
}

abbrev pub plain_subregion : Subregion → PlainSubregion
plain_subregion s = option_map (λ v. map plain_filter v.items) s.filters

abbrev pub plain_south : SouthConf → PlainSouth
plain_south Auto = None
plain_south (Custom subregions) = Some (map plain_subregion subregions.items)

-- how many subregions are listed
abbrev pub subregion_count : SouthConf → ℕ
subregion_count Auto = 0
subregion_count (Custom subregions) = length subregions.items

-- ---- filters

-- a part that is absent holds
abbrev pub part_holds : {A : Type 0} → (A → Bool) → Option A → Bool
part_holds test part = option_map_or test part true

abbrev pub is_text_listed : List (List ℕ) → List ℕ → Bool
is_text_listed listed text = list_any (bytes_eq text) listed

abbrev pub has_zid : List Zid → PlainPeer → Bool
has_zid listed peer = list_any (zid_eq peer.zid) listed

-- every interface of every link is listed
abbrev pub has_interfaces : List (List ℕ) → PlainPeer → Bool
has_interfaces listed peer = list_all (λ link. list_all (is_text_listed listed) link) peer.links

abbrev pub has_mode : List WhatAmI → PlainPeer → Bool
has_mode listed peer = list_any (whatami_eq peer.whatami) listed

-- the peer has a region name and it is listed
abbrev pub has_region_name : List (List ℕ) → PlainPeer → Bool
has_region_name listed peer = option_map_or (is_text_listed listed) peer.region_name false

abbrev pub parts_hold : PlainFilter → PlainPeer → Bool
parts_hold f peer =
    part_holds (λ listed. has_zid listed peer) f.zids
    && part_holds (λ listed. has_interfaces listed peer) f.interfaces
    && part_holds (λ listed. has_mode listed peer) f.modes
    && part_holds (λ listed. has_region_name listed peer) f.region_names

abbrev pub filter_holds : PlainFilter → PlainPeer → Bool
filter_holds f peer = if f.negated then not (parts_hold f peer) else parts_hold f peer

-- a subregion without filters matches every peer
abbrev pub subregion_matches : PlainSubregion → PlainPeer → Bool
subregion_matches None peer = true
subregion_matches (Some filters) peer = list_any (λ f. filter_holds f peer) filters

-- ---- the transient region: what one side alone makes of a peer

-- the position of the first subregion that the peer matches
abbrev pub first_match : List PlainSubregion → PlainPeer → Option ℕ
first_match subregions peer = position (λ s. subregion_matches s peer) subregions

-- own mode, the remote's mode, the position
abbrev pub placed : WhatAmI → WhatAmI → Option ℕ → Result (Option Region) RegionError
placed own remote None = Ok (Some North)
placed Router Router (Some i) = Ok (Some (South i Router))
placed own Router (Some i) = Err RouterUnderNonRouter
placed own remote (Some i) = Ok (Some (South i remote))

abbrev pub transient_region : PlainPeer → WhatAmI → PlainSouth → Result (Option Region) RegionError
transient_region peer own None = Ok None
transient_region peer own (Some subregions) = placed own peer.whatami (first_match subregions peer)

abbrev pub transient_bound : PlainPeer → WhatAmI → PlainSouth → Result (Option Bound) RegionError
transient_bound peer own south =
    result_map_both (option_map bound_of) (λ e. e) (transient_region peer own south)
