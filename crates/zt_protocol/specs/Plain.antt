-- Calls, lines and entries without where their lists lie in memory: what definitions speak of.
use Rattle.std.specs.Prelude.{ℕ, List, Option, Result, Ok, Err, Bool, option_map, string_bytes}
use Rattle.zt_region.specs.declared.region.Bound.{Bound}
use Rattle.zt_region.specs.declared.region.Region.{Region}
use Rattle.zt_region.specs.declared.region.WhatAmI.{WhatAmI}
use Rattle.zt_region.specs.declared.region.Zid.{Zid}
use Rattle.zt_region.specs.South.{PlainSouth, plain_south}
use Rattle.zt_protocol.specs.declared.calls.Call.{Call}
use Rattle.zt_protocol.specs.declared.calls.Call.TheVariants as call
use Rattle.zt_protocol.specs.declared.calls.TreeTable.{TreeTable}
use Rattle.zt_protocol.specs.declared.entries.Entry.{Entry}
use Rattle.zt_protocol.specs.declared.entries.Sent.{Sent}
use Rattle.zt_protocol.specs.declared.errors.Refusal.{Refusal}
use Rattle.zt_protocol.specs.declared.interests.InterestMode.{InterestMode}
use Rattle.zt_protocol.specs.declared.interests.InterestOptions.{InterestOptions}
use Rattle.zt_protocol.specs.declared.lines.Line.{Line}
use Rattle.zt_protocol.specs.declared.lines.Line.TheVariants as line
use Rattle.zt_protocol.specs.declared.messages.QueryableInfo.{QueryableInfo}

-- the trees of a router region
pub record Trees : Type 0 where
  pub routers : List (ℕ × Zid)
  pub links : List (ℕ × ℕ × Zid)
  pub children : List (Zid × Zid)

abbrev pub trees_of : TreeTable → Trees
trees_of table = record { routers = table.routers.items; links = table.links.items; children = table.children.items }

-- a call
pub data PlainCall (K : Type 0) : Type 0 where
  NewSession : (first : ℕ) → PlainCall K
  NewTransport : (zid : Zid) (whatami : WhatAmI) (region : Region) (remote_bound : Bound) (first : ℕ) → PlainCall K
  DeclareToken : (face id : ℕ) (expr : K) (node : ℕ) (interest : Option ℕ) → PlainCall K
  UndeclareToken : (face id : ℕ) (expr : Option K) (node : ℕ) → PlainCall K
  Interest : (face id : ℕ) (mode : InterestMode) (options : InterestOptions) (expr : Option K) → PlainCall K
  InterestFinal : (face id : ℕ) → PlainCall K
  DeclareFinal : (face interest : ℕ) → PlainCall K
  CloseFace : (face : ℕ) → PlainCall K
  Expire : (now : ℕ) → PlainCall K
  SetTrees : (region : Region) (table : Trees) → PlainCall K
  SetEntities : (face : ℕ) (subscribers : List K) (queryables : List (K × QueryableInfo)) → PlainCall K

abbrev pub plain_call : {K : Type 0} → Call K → PlainCall K
plain_call (call.NewSession first) = NewSession first
plain_call (call.NewTransport zid whatami region bound first) = NewTransport zid whatami region bound first
plain_call (call.DeclareToken face id expr node interest) = DeclareToken face id expr node interest
plain_call (call.UndeclareToken face id expr node) = UndeclareToken face id expr node
plain_call (call.Interest face id mode options expr) = Interest face id mode options expr
plain_call (call.InterestFinal face id) = InterestFinal face id
plain_call (call.DeclareFinal face interest) = DeclareFinal face interest
plain_call (call.CloseFace face) = CloseFace face
plain_call (call.Expire now) = Expire now
plain_call (call.SetTrees region table) = SetTrees region (trees_of table)
plain_call (call.SetEntities face subscribers queryables) = SetEntities face subscribers.items queryables.items

-- a line of a script
pub data PlainLine (K : Type 0) : Type 0 where
  Gateway : (mode : WhatAmI) (zid : Zid) (regions : List Region) (south : PlainSouth) (name : Option (List ℕ)) (timeout : ℕ) (refused : List (Region × Region)) → PlainLine K
  Session : (gateway first : ℕ) → PlainLine K
  Face : (gateway : ℕ) (mode : WhatAmI) (zid : Zid) (region : Region) (bound : Bound) (first : ℕ) → PlainLine K
  Link : (one two first back : ℕ) → PlainLine K
  Unlink : (link : ℕ) → PlainLine K
  Step : (link : ℕ) (back : Bool) → PlainLine K
  Speak : (call : PlainCall K) → PlainLine K
  Moment : (gateway now : ℕ) → PlainLine K
  SetTreesAt : (gateway : ℕ) (region : Region) (table : Trees) → PlainLine K

abbrev pub plain_line : {K : Type 0} → Line K → PlainLine K
plain_line (line.Gateway mode zid regions south name timeout refuse) = Gateway mode zid regions.items (plain_south south) (option_map string_bytes name) timeout refuse.refused.items
plain_line (line.Session gateway first) = Session gateway first
plain_line (line.Face gateway mode zid region bound first) = Face gateway mode zid region bound first
plain_line (line.Link one two first back) = Link one two first back
plain_line (line.Unlink link) = Unlink link
plain_line (line.Step link back) = Step link back
plain_line (line.Speak call) = Speak (plain_call call)
plain_line (line.Moment gateway now) = Moment gateway now
plain_line (line.Trees gateway region table) = SetTreesAt gateway region (trees_of table)

-- what a line came to: its messages, or why it was refused
abbrev pub PlainEntry : Type 0 → Type 0
PlainEntry K = Result (List (Sent K)) Refusal

abbrev pub plain_entry : {K : Type 0} → Entry K → PlainEntry K
plain_entry entry = elim entry.outcome [ Ok sent ↦ Ok sent.items | Err refusal ↦ Err refusal ]
