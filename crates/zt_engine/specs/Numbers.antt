-- Numbers for nodes: their modes, their own numbers, and the sides of a gateway.
use Rattle.std.specs.Prelude.{◌≡◌, ℕ, ◌+◌, ◌*◌, ◌==◌, if◌then◌else◌, [], Option, Some, None}
use Rattle.zt_region.specs.declared.region.Bound.{Bound}
use Rattle.zt_region.specs.declared.region.Bound.TheVariants.{North, South}
use Rattle.zt_region.specs.declared.region.WhatAmI.{WhatAmI}
use Rattle.zt_region.specs.declared.region.WhatAmI.TheVariants.{Router, Peer, Client}
use Rattle.zt_region.specs.declared.region.Zid.{Zid}
use Rattle.zt_model.specs.Fabric.{new_rows}
use Rattle.zt_liveliness.specs.Lively.{Lively, begun}
use Rattle.zt_engine.specs.declared.numbers.Node.{Node}
use Rattle.zt_engine.specs.declared.numbers.Remote.{Remote}

abbrev pub whatami_of : ℕ → Option WhatAmI
whatami_of n = if n == 1 then Some Router else (if n == 2 then Some Peer else (if n == 4 then Some Client else None))

abbrev pub bound_of : ℕ → Option Bound
bound_of n = if n == 1 then Some North else (if n == 2 then Some South else None)

-- the number of a node in two halves; 0 is none
abbrev pub zid_of : ℕ → ℕ → Option Zid
zid_of high low = if high * 18446744073709551616 + low == 0 then None else Some (record { 0 = high * 18446744073709551616 + low })

abbrev pub node_in : Option Zid → Option WhatAmI → Option Node
node_in (Some zid) (Some mode) = Some (record { zid = zid; mode = mode })
node_in _ _ = None

abbrev pub node_of : ℕ → ℕ → ℕ → Option Node
node_of high low mode = node_in (zid_of high low) (whatami_of mode)

abbrev pub remote_in : Option Node → Option Bound → Option Remote
remote_in (Some node) (Some bound) = Some (record { node = node; bound = bound })
remote_in _ _ = None

abbrev pub remote_of : ℕ → ℕ → ℕ → ℕ → Option Remote
remote_of high low mode bound = remote_in (node_of high low mode) (bound_of bound)

-- ---- engines as they are made

abbrev pub IsMadeOf : {K : Type 0} → Option Node → ℕ → Lively K → Type 0
IsMadeOf None timeout engine = ⊥
IsMadeOf (Some node) timeout engine = engine ≡ begun (new_rows node.mode node.zid [] timeout [])

-- an engine over a new gateway of these numbers
abbrev pub IsMade : {K : Type 0} → ℕ → ℕ → ℕ → ℕ → Lively K → Type 0
IsMade high low mode timeout engine = IsMadeOf (node_of high low mode) timeout engine

-- the status where none was made of a node: there is no such node, or memory ran out
abbrev pub unmade_status : Option Node → ℕ
unmade_status None = 8
unmade_status (Some node) = 5

abbrev pub IsNotMade : ℕ → ℕ → ℕ → ℕ → Type 0
IsNotMade high low mode status = status ≡ unmade_status (node_of high low mode)
