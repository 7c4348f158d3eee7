-- What a gateway keeps: its settings, its faces with their rows, and the rows of its router regions.
-- Each list of a face stands in order of id, and the faces in order of number.
use Rattle.std.specs.Prelude.{ℕ, Bool, List, Option}
use Rattle.zt_region.specs.declared.region.Bound.{Bound}
use Rattle.zt_region.specs.declared.region.Region.{Region}
use Rattle.zt_region.specs.declared.region.WhatAmI.{WhatAmI}
use Rattle.zt_region.specs.declared.region.Zid.{Zid}
use Rattle.zt_protocol.specs.Plain.{Trees}
use Rattle.zt_protocol.specs.declared.interests.InterestMode.{InterestMode}
use Rattle.zt_protocol.specs.declared.interests.InterestOptions.{InterestOptions}
use Rattle.zt_protocol.specs.declared.messages.QueryableInfo.{QueryableInfo}

-- rows by their ids
abbrev pub ById : Type 0 → Type 0
ById A = List (ℕ × A)

-- an interest, as a face holds it or as it was sent upstream
pub record InterestRow (K : Type 0) : Type 0 where
  pub mode : InterestMode
  pub options : InterestOptions
  pub expr : Option K

-- an upstream interest that isn't finished: zenoh's pending current interest
pub record Pending : Type 0 where
  pub mode : InterestMode
  pub since : ℕ

-- a current interest whose final wasn't sent: the face and id of each interest that it sent upstream, and
-- the expressions that it was answered
pub record Ask (K : Type 0) : Type 0 where
  pub interest : InterestRow K
  pub pendings : List (ℕ × ℕ)
  pub answered : List K

-- an open face. `bound` is the remote's bound and `mode` the remote's mode, `next` the id that is drawn
-- next. The rows are, with zenoh's words: `live` remote tokens, `told` local tokens, `held` remote
-- interests, `locals` local interests. `initial` says of a mutual north peer whether its initial interest is finalised.
pub record Face (K : Type 0) : Type 0 where
  pub number : ℕ
  pub region : Region
  pub bound : Bound
  pub mode : WhatAmI
  pub zid : Zid
  pub next : ℕ
  pub live : ById K
  pub told : ById K
  pub held : ById (InterestRow K)
  pub locals : ById (InterestRow K)
  pub pendings : ById Pending
  pub asks : ById (Ask K)
  pub initial : Option Bool
  pub subscribers : List K
  pub queryables : List (K × QueryableInfo)

-- a token of a router region, under the router that it comes from; own rows stand under the gateway's zid
pub record RoutedRow (K : Type 0) : Type 0 where
  pub region : Region
  pub source : Zid
  pub expr : K

-- a gateway. `regions` are the listed south regions, `refused` the pairs that the admission table refuses,
-- `made` the number of faces made.
pub record Rows (K : Type 0) : Type 0 where
  pub mode : WhatAmI
  pub zid : Zid
  pub regions : List Region
  pub refused : List (Region × Region)
  pub timeout : ℕ
  pub moment : ℕ
  pub made : ℕ
  pub trees : List (Region × Trees)
  pub routed : List (RoutedRow K)
  pub dictionary : List K
  pub faces : List (Face K)
