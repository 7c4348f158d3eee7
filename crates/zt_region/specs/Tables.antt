-- The tables of regions, an equation for each row. Modes stand in the order own, remote; an answer is
-- the region of the face and the remote's bound.
use Rattle.std.specs.Prelude.{Option, Some, None, Result, Ok, Err, if◌then◌else◌}
use Rattle.zt_region.specs.declared.region.WhatAmI.{WhatAmI}
use Rattle.zt_region.specs.declared.region.WhatAmI.TheVariants.{Router, Peer, Client}
use Rattle.zt_region.specs.declared.region.Bound.{Bound}
use Rattle.zt_region.specs.declared.region.Bound.TheVariants.{North as NorthBound, South as SouthBound}
use Rattle.zt_region.specs.declared.region.Region.{Region}
use Rattle.zt_region.specs.declared.region.Region.TheVariants.{North, South}
use Rattle.zt_region.specs.declared.region.RegionError.{RegionError}
use Rattle.zt_region.specs.declared.region.RegionError.TheVariants.{ClientClient, RemoteConflictsWithAuto, AutoConflictsWithOwn, NorthModesDiffer, SouthSouth, MulticastLimit}
use Rattle.zt_region.specs.Region.{whatami_eq}
use Rattle.zt_region.specs.South.{PlainPeer, PlainSouth, transient_region}

abbrev pub RegionAnswer : Type 0
RegionAnswer = Result (Region × Bound) RegionError

-- where neither side has a region configured
abbrev pub auto_region : WhatAmI → WhatAmI → RegionAnswer
auto_region Router Peer = Ok (South 0 Peer, NorthBound)
auto_region Router Client = Ok (South 0 Client, NorthBound)
auto_region Peer Client = Ok (South 0 Client, NorthBound)
auto_region Router Router = Ok (North, NorthBound)
auto_region Peer Peer = Ok (North, NorthBound)
auto_region Peer Router = Ok (North, SouthBound)
auto_region Client Router = Ok (North, SouthBound)
auto_region Client Peer = Ok (North, SouthBound)
auto_region Client Client = Err ClientClient

-- the automatic answer, where the remote knows that it is north-bound
abbrev pub auto_with_remote_north : RegionAnswer → RegionAnswer
auto_with_remote_north (Ok (region, NorthBound)) = Ok (region, NorthBound)
auto_with_remote_north (Ok (region, SouthBound)) = Err RemoteConflictsWithAuto
auto_with_remote_north (Err e) = Err e

-- the automatic answer, where the own side puts the remote into North
abbrev pub auto_with_own_north : RegionAnswer → RegionAnswer
auto_with_own_north (Ok (North, bound)) = Ok (North, bound)
auto_with_own_north (Ok (south, bound)) = Err AutoConflictsWithOwn
auto_with_own_north (Err e) = Err e

-- Own mode, the remote's mode, the own transient region and the remote's transient bound. A transient
-- region other than North is south-bound.
abbrev pub agreed_region : WhatAmI → WhatAmI → Option Region → Option Bound → RegionAnswer
agreed_region own remote None None = auto_region own remote
agreed_region own remote None (Some SouthBound) = Ok (North, SouthBound)
agreed_region own remote None (Some NorthBound) = auto_with_remote_north (auto_region own remote)
agreed_region own remote (Some North) None = auto_with_own_north (auto_region own remote)
agreed_region own remote (Some North) (Some NorthBound) =
    if whatami_eq own remote then Ok (North, NorthBound) else Err NorthModesDiffer
agreed_region own remote (Some North) (Some SouthBound) = Ok (North, SouthBound)
agreed_region own remote (Some south) None = Ok (south, NorthBound)
agreed_region own remote (Some south) (Some NorthBound) = Ok (south, NorthBound)
agreed_region own remote (Some south) (Some SouthBound) = Err SouthSouth

-- a refusal of the own transient region comes first
abbrev pub agreed_after :
    WhatAmI → WhatAmI → Result (Option Region) RegionError → Option Bound → RegionAnswer
agreed_after own remote (Ok transient) remote_bound = agreed_region own remote transient remote_bound
agreed_after own remote (Err e) remote_bound = Err e

-- the region of a peer and its bound, by the own configuration and the remote's transient bound
abbrev pub region_of : PlainPeer → WhatAmI → PlainSouth → Option Bound → RegionAnswer
region_of peer own south remote_bound =
    agreed_after own peer.whatami (transient_region peer own south) remote_bound

-- ---- multicast groups

-- the region of a group
abbrev pub multicast_region : WhatAmI → Result Region RegionError
multicast_region Peer = Ok North
multicast_region Router = Ok (South 0 Peer)
multicast_region Client = Err MulticastLimit

-- the region of a group's member
abbrev pub multicast_region_of : WhatAmI → WhatAmI → RegionAnswer
multicast_region_of Peer Peer = Ok (North, NorthBound)
multicast_region_of Router Peer = Ok (South 0 Peer, NorthBound)
multicast_region_of Peer Router = Ok (North, SouthBound)
multicast_region_of own remote = Err MulticastLimit
