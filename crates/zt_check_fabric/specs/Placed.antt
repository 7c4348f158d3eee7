-- The places of a fabric's faces.
use Rattle.std.specs.Prelude.{◌≡◌, ℕ, ◌≤◌, Bool, true, false, ◌==◌, ◌&&◌, not, if◌then◌else◌, List, [], ◌∷◌, Option, None, Some}
use Rattle.std.specs.List.{list_any}
use Rattle.zt_model.specs.Fabric.{Fabric, Node, Place}
use Rattle.zt_model.specs.Lists.{nth}
use Rattle.zt_model.specs.Promises.{EachFace}
use Rattle.zt_model.specs.Transcript.{Each}

-- it is the place of the gateway's face
abbrev pub is_place : ℕ → ℕ → Place → Bool
is_place gateway face p = (gateway == p.gateway) && (face == p.face)

-- one of these is the place of the gateway's face, and no other
abbrev pub has_one_place : ℕ → ℕ → List Place → Bool
has_one_place gateway face [] = false
has_one_place gateway face (p ∷ ps) =
    if is_place gateway face p then not (list_any (is_place gateway face) ps) else has_one_place gateway face ps

-- how many faces a gateway has made, and 0 where there is no gateway
abbrev pub made_of : {K : Type 0} → Option (Node K) → ℕ
made_of None = 0
made_of (Some node) = node.rows.made

abbrev pub made_by : {K : Type 0} → Fabric K → ℕ → ℕ
made_by s gateway = made_of (nth gateway s.gateways)

-- Each open face has one place, and no place is of a face that wasn't made.
pub record IsPlaced {K : Type 0} (s : Fabric K) : Type 0 where
  pub one : EachFace (λ n g f. has_one_place n f.number s.faces ≡ true) s
  pub made : Each (λ p. p.face ≤ made_by s p.gateway) s.faces
