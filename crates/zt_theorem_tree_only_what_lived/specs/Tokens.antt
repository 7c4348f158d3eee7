-- Tokens of a kind, wherever they stand.
use Rattle.std.specs.Prelude.{◌≡◌, ℕ, false, List}
use Rattle.zt_region.specs.Region.{region_eq, zid_eq}
use Rattle.zt_protocol.specs.Plain.{PlainCall, DeclareToken, SetTrees}
use Rattle.zt_protocol.specs.declared.messages.Message.{Message}
use Rattle.zt_protocol.specs.declared.messages.Message.TheVariants as message
use Rattle.zt_model.specs.Rows.{Rows}
use Rattle.zt_model.specs.Transcript.{Each}

module _ {K : Type 0} (Q : K → Type 0) where
  -- a token of the kind, or any other message
  abbrev pub TokenIn : Message K → Type 0
  TokenIn (message.DeclareToken id e interest node) = Q e
  TokenIn _ = Unit {0}

  abbrev pub SaysIn : List (ℕ × Message K) → Type 0
  SaysIn ss = Each (λ s. TokenIn s.1) ss

  -- all live rows of a gateway, and all rows of other routers
  pub record IsIn (g : Rows K) : Type 0 where
    pub live : Each (λ f. Each (λ row. Q row.1) f.live) g.faces
    pub routed : Each (λ row. zid_eq row.source g.zid ≡ false → Q row.expr) g.routed

  -- the token of a call; and a table is of a region without faces
  abbrev pub CallIn : Rows K → PlainCall K → Type 0
  CallIn g (DeclareToken n id e node interest) = Q e
  CallIn g (SetTrees region table) = Each (λ f. region_eq f.region region ≡ false) g.faces
  CallIn g _ = Unit {0}
