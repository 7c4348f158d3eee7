-- What a gateway is made of.
use Rattle.std.specs.Prelude.{ℕ, List, [], Option}
use Rattle.zt_region.specs.declared.region.Region.{Region}
use Rattle.zt_region.specs.declared.region.WhatAmI.{WhatAmI}
use Rattle.zt_region.specs.declared.region.Zid.{Zid}
use Rattle.zt_region.specs.South.{PlainSouth}
use Rattle.zt_protocol.specs.Plain.{PlainLine, Gateway}
use Rattle.zt_model.specs.Fabric.{new_rows}
use Rattle.zt_gateway.specs.Running.{Running}

pub record Settings : Type 0 where
  pub mode : WhatAmI
  pub zid : Zid
  pub regions : List Region
  pub south : PlainSouth
  pub name : Option (List ℕ)
  pub timeout : ℕ
  pub refused : List (Region × Region)

-- the line of a script that makes a gateway of these settings
abbrev pub line_of : {K : Type 0} → Settings → PlainLine K
line_of s = Gateway s.mode s.zid s.regions s.south s.name s.timeout s.refused

-- a gateway as it is made
abbrev pub new_gateway : {K : Type 0} → Settings → Running K
new_gateway s = record { rows = new_rows s.mode s.zid s.regions s.timeout s.refused; waiting = [] }
