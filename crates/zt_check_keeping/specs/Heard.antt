-- The tokens of which printed messages speak, each with its gateway's number and its face's there. They are read off the fabric
-- that doesn't hear them yet.
use Rattle.std.specs.Prelude.{ℕ, Bool, ◌==◌, if◌then◌else◌, List, [], ◌∷◌, ◌++◌, Option, Some, None}
use Rattle.zt_protocol.specs.declared.entries.Sent.{Sent}
use Rattle.zt_protocol.specs.declared.messages.Message.{Message}
use Rattle.zt_protocol.specs.declared.messages.Message.TheVariants.{DeclareToken, UndeclareToken}
use Rattle.zt_model.specs.Fabric.{Fabric, Node, Place}
use Rattle.zt_model.specs.Lists.{nth}
use Rattle.zt_model.specs.Rows.{ById, Face}

-- what a face was told under an id
abbrev pub told_under : {K : Type 0} → ℕ → ℕ → ℕ → ById K → List (ℕ × ℕ × K)
told_under gateway n id [] = []
told_under gateway n id (row ∷ rows) = if id == row.0 then (gateway, n, row.1) ∷ told_under gateway n id rows else told_under gateway n id rows

-- the tokens of a message for a face that was told these rows
abbrev pub heard_of : {K : Type 0} → ℕ → ℕ → ById K → Message K → List (ℕ × ℕ × K)
heard_of gateway n told (DeclareToken id e interest node) = if id == 0 then [] else (gateway, n, e) ∷ []
heard_of gateway n told (UndeclareToken id (Some e) node) = (gateway, n, e) ∷ []
heard_of gateway n told (UndeclareToken id None node) = told_under gateway n id told
heard_of gateway n told _ = []

-- by the faces of the number
abbrev pub heard_among : {K : Type 0} → ℕ → ℕ → Message K → List (Face K) → List (ℕ × ℕ × K)
heard_among gateway n m [] = []
heard_among gateway n m (f ∷ fs) = if n == f.number then heard_of gateway n f.told m ++ heard_among gateway n m fs else heard_among gateway n m fs

abbrev pub heard_at : {K : Type 0} → ℕ → ℕ → Message K → Option (Node K) → List (ℕ × ℕ × K)
heard_at gateway n m None = []
heard_at gateway n m (Some node) = heard_among gateway n m node.rows.faces

abbrev pub heard_there : {K : Type 0} → Fabric K → Message K → Option Place → List (ℕ × ℕ × K)
heard_there s m None = []
heard_there s m (Some p) = heard_at p.gateway p.face m (nth p.gateway s.gateways)

-- those of all messages
abbrev pub heard_by : {K : Type 0} → Fabric K → List (Sent K) → List (ℕ × ℕ × K)
heard_by s [] = []
heard_by s (m ∷ ms) = heard_there s m.message (nth m.face s.faces) ++ heard_by s ms
