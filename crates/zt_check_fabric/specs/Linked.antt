-- The calls that open the two ends of a link.
use Rattle.std.specs.Prelude.{ℕ, List, [], ◌∷◌, Option, None, Some, Ok, Err}
use Rattle.zt_region.specs.declared.region.WhatAmI.{WhatAmI}
use Rattle.zt_region.specs.South.{PlainPeer, PlainSouth, transient_bound}
use Rattle.zt_region.specs.Tables.{RegionAnswer, region_of}
use Rattle.zt_protocol.specs.Plain.{PlainCall, NewTransport}
use Rattle.zt_model.specs.Fabric.{CallAt, Fabric, Node, call_at}
use Rattle.zt_model.specs.Linking.{LinkEnd, end_call, end_region}

-- the call that opens a gateway's face to another, where the two agree
abbrev pub call_to : {K : Type 0} → Node K → Node K → ℕ → Option (PlainCall K)
call_to own other first =
    elim (end_region own other) [ Ok given ↦ Some (NewTransport other.rows.zid other.rows.mode given.0 given.1 first) | Err e ↦ None ]

-- the calls of the first end and of the second
abbrev pub first_call : {K : Type 0} → List (LinkEnd K) → Option (PlainCall K)
first_call [] = None
first_call (end ∷ ends) = end_call end

abbrev pub second_call : {K : Type 0} → List (LinkEnd K) → Option (PlainCall K)
second_call [] = None
second_call (end ∷ ends) = first_call ends

-- a call at a gateway, where there is one
abbrev pub given_at : {K : Type 0} → Fabric K → ℕ → Option (PlainCall K) → Option (CallAt K)
given_at s gateway None = None
given_at s gateway (Some call) = call_at s gateway call

-- what one end and the other, as they see each other, come to
abbrev pub agreed : PlainPeer → PlainPeer → WhatAmI → PlainSouth → WhatAmI → PlainSouth → RegionAnswer
agreed peer beyond mode south other_mode other_south =
    elim (transient_bound peer other_mode other_south) [ Ok bound ↦ region_of beyond mode south bound | Err e ↦ Err e ]
