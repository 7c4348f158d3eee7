-- Gateways, the faces of all of them by their numbers in scripts, and the links between them.
use Rattle.std.specs.Prelude.{ℕ, Bool, ◌+◌, ◌-◌, ◌==◌, ◌&&◌, if◌then◌else◌, List, [], ◌∷◌, Option}
use Rattle.zt_region.specs.South.{PlainSouth}
use Rattle.zt_protocol.specs.declared.messages.Message.{Message}
use Rattle.zt_model.specs.Rows.{ById, Rows}

-- where a face is: its gateway, and its number there
pub record Place : Type 0 where
  pub gateway : ℕ
  pub face : ℕ

-- the two faces that a link joins, and whether it is open
pub record Link : Type 0 where
  pub one : ℕ
  pub two : ℕ
  pub is_open : Bool

-- a gateway with what its links are made by: its configuration of the south, and its name
pub record Node (K : Type 0) : Type 0 where
  pub rows : Rows K
  pub south : PlainSouth
  pub name : Option (List ℕ)

-- gateways, faces and links are numbered from 1 in order of making; `waiting` has for a face that ends a link the
-- messages that wait for the other end
pub record Fabric (K : Type 0) : Type 0 where
  pub gateways : List (Node K)
  pub faces : List Place
  pub links : List Link
  pub waiting : ById (List (Message K))

abbrev pub empty_fabric : {K : Type 0} → Fabric K
empty_fabric = record { gateways = []; faces = []; links = []; waiting = [] }

-- the number in scripts of a gateway's face, counted from i; 0 where there is none
unfoldable pub number_from : ℕ → ℕ → ℕ → List Place → ℕ
number_from i gateway face [] = 0
number_from i gateway face (p ∷ ps) = if (gateway == p.gateway) && (face == p.face) then i else number_from (i + 1) gateway face ps

abbrev pub number_of_place : {K : Type 0} → Fabric K → ℕ → ℕ → ℕ
number_of_place s gateway face = number_from 1 gateway face s.faces

-- the member at a position from 1, changed
abbrev pub at_nth : {A : Type 0} → ℕ → (A → A) → List A → List A
at_nth n change [] = []
at_nth n change (x ∷ xs) = if n == 1 then change x ∷ xs else x ∷ at_nth (n - 1) change xs

abbrev pub with_rows : {K : Type 0} → ℕ → (Rows K → Rows K) → Fabric K → Fabric K
with_rows n change s = record s { gateways = at_nth n (λ node. record node { rows = change node.rows }) s.gateways }
