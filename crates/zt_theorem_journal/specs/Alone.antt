-- A fabric of one gateway and its faces.
use Rattle.std.specs.Prelude.{◌≡◌, ℕ, ◌≤◌, Bool, ◌==◌, if◌then◌else◌, List, [], ◌∷◌, length, Some, Err}
use Rattle.std.specs.declared.cmp.Ordering.{Ordering}
use Rattle.zt_protocol.specs.Plain.{PlainCall, NewSession, NewTransport, Expire, PlainEntry, PlainLine, Session, Face, Speak}
use Rattle.zt_protocol.specs.declared.errors.Refusal.TheVariants as refusal
use Rattle.zt_model.specs.Fabric.{Fabric, Node, call_face, entry_of, fabric_after}
use Rattle.zt_model.specs.Journal.{outcome_of, rows_after}
use Rattle.zt_model.specs.Rows.{Rows}
use Rattle.zt_laws.specs.Order.{FabricIsInOrder}
use Rattle.zt_laws.specs.Sound.{EachFrom}

-- the call speaks for a face, or closes it
abbrev pub Speaks : {K : Type 0} → PlainCall K → Type 0
Speaks call = (face : ℕ) × (call_face call ≡ Some face)

-- the call opens a session with a real first id, or speaks for a face or closes it
abbrev pub SpeaksOrOpens : {K : Type 0} → PlainCall K → Type 0
SpeaksOrOpens (NewSession first) = 1 ≤ first
SpeaksOrOpens call = Speaks call

-- the line of such a call, where its gateway is the first
abbrev pub line_of_call : {K : Type 0} → PlainCall K → PlainLine K
line_of_call (NewSession first) = Session 1 first
line_of_call call = Speak call

-- the gateway that a line names which opens a face, and the line's call there
abbrev pub gateway_named : {K : Type 0} → PlainLine K → ℕ
gateway_named (Session gateway first) = gateway
gateway_named (Face gateway mode zid region bound first) = gateway
gateway_named _ = 0

abbrev pub opening_call : {K : Type 0} → PlainLine K → PlainCall K
opening_call (Session gateway first) = NewSession first
opening_call (Face gateway mode zid region bound first) = NewTransport zid mode region bound first
opening_call _ = Expire 0

module _ {K : Type 0} (cmp : K → K → Ordering) (matching : K → K → Bool) where
  -- one gateway with these rows, whose faces have the numbers that they have there, and no link
  pub record IsAlone (g : Rows K) (s : Fabric K) : Type 0 where
    pub node : Node K
    pub gateways : s.gateways ≡ node ∷ []
    pub rows : node.rows ≡ g
    pub made : length s.faces ≡ g.made
    pub places : EachFrom (λ n p. p ≡ record { gateway = 1; face = n }) 1 s.faces
    pub links : s.links ≡ []
    pub waiting : s.waiting ≡ []
    pub ordered : FabricIsInOrder cmp matching s

  -- the line comes to this entry, and leaves one gateway with these rows
  pub record ComesTo (line : PlainLine K) (s : Fabric K) (entry : PlainEntry K) (g : Rows K) : Type 0 where
    pub entry_is : entry_of cmp matching line s ≡ entry
    pub after : IsAlone g (fabric_after cmp matching line (entry_of cmp matching line s) s)

  -- ---- lines that open faces, where one gateway is there

  -- what such a line comes to, by the rows of the gateway, and the rows that it leaves
  abbrev pub made_entry : PlainLine K → Rows K → PlainEntry K
  made_entry line g = if gateway_named line == 1 then outcome_of cmp matching (opening_call line) g else Err refusal.UnknownGateway

  abbrev pub made_rows : PlainLine K → Rows K → Rows K
  made_rows line g = if gateway_named line == 1 then rows_after cmp matching (opening_call line) g else g

  -- what they come to one after another
  unfoldable pub made_entries : List (PlainLine K) → Rows K → List (PlainEntry K)
  made_entries [] g = []
  made_entries (line ∷ lines) g = made_entry line g ∷ made_entries lines (made_rows line g)

  unfoldable pub rows_made : List (PlainLine K) → Rows K → Rows K
  rows_made [] g = g
  rows_made (line ∷ lines) g = rows_made lines (made_rows line g)
