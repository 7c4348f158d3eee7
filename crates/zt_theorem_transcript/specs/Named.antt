-- Interests that carry named options alone: those that lines speak, those that faces hold, and those that wait on links.
use Rattle.std.specs.Prelude.{◌≡◌, ◌<◌, true, List}
use Rattle.zt_protocol.specs.Plain.{PlainCall, Interest, PlainLine, Speak}
use Rattle.zt_protocol.specs.declared.messages.Message.{Message}
use Rattle.zt_model.specs.Fabric.{Fabric, Node}
use Rattle.zt_model.specs.Rows.{Rows}
use Rattle.zt_model.specs.Transcript.{Each, has_named_options}

-- a call that is an interest carries named options alone
abbrev pub CallHasNamedOptions : {K : Type 0} → PlainCall K → Type 0
CallHasNamedOptions (Interest face id mode options e) = options.0 < 32
CallHasNamedOptions _ = Unit {0}

-- so does a line that speaks one
abbrev pub HasNamedOptions : {K : Type 0} → PlainLine K → Type 0
HasNamedOptions (Speak call) = CallHasNamedOptions call
HasNamedOptions _ = Unit {0}

-- the interests that faces hold
abbrev pub HoldNamedOptions : {K : Type 0} → Rows K → Type 0
HoldNamedOptions g = Each (λ f. Each (λ row. row.1.options.0 < 32) f.held) g.faces

abbrev pub SendNamedOptions : {K : Type 0} → List (Message K) → Type 0
SendNamedOptions ms = Each (λ m. has_named_options m ≡ true) ms

-- held and waiting interests of a fabric
pub record FabricHasNamedOptions {K : Type 0} (s : Fabric K) : Type 0 where
  pub gateways : Each (λ (node : Node K). HoldNamedOptions node.rows) s.gateways
  pub waiting : Each (λ row. SendNamedOptions row.1) s.waiting
