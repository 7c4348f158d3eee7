-- What a call is made of: what the call itself changes, and what is said then, to one face or to each. A later
-- part reads the rows that the earlier ones leave.
use Rattle.std.specs.Prelude.{ℕ, Bool, ◌+◌, ◌==◌, not, if◌then◌else◌, List, [], ◌∷◌, ◌++◌, Option, Some, None, map, filter}
use Rattle.std.specs.declared.cmp.Ordering.{Ordering}
use Rattle.zt_region.specs.declared.region.Bound.{Bound}
use Rattle.zt_region.specs.declared.region.Bound.TheVariants.{North as NorthBound}
use Rattle.zt_region.specs.declared.region.Region.{Region}
use Rattle.zt_region.specs.declared.region.Region.TheVariants.{Local}
use Rattle.zt_region.specs.declared.region.WhatAmI.{WhatAmI}
use Rattle.zt_region.specs.declared.region.WhatAmI.TheVariants.{Client}
use Rattle.zt_region.specs.declared.region.Zid.{Zid}
use Rattle.zt_protocol.specs.declared.messages.Message.{Message}
use Rattle.zt_model.specs.Hat.{hat_of_face}
use Rattle.zt_model.specs.Hearing.{rows_heard}
use Rattle.zt_model.specs.Lists.{same, first_where}
use Rattle.zt_model.specs.Rows.{ById, Face, Rows}

-- messages with the numbers of the faces that they are for
abbrev pub Sends : Type 0 → Type 0
Sends K = List (ℕ × Message K)

-- a part of a call
pub data Part (K : Type 0) : Type 0 where
  Alter : (Rows K → Rows K) → Part K
  Say : (Rows K → Sends K) → Part K

-- each face is sent what a rule gives for it, in order of number
unfoldable pub to_each : {K : Type 0} → (Face K → List (Message K)) → List (Face K) → Sends K
to_each rule [] = []
to_each rule (f ∷ fs) = map (λ m. (f.number, m)) (rule f) ++ to_each rule fs

abbrev pub find_face : {K : Type 0} → ℕ → Rows K → Option (Face K)
find_face n g = first_where (λ f. n == f.number) g.faces

-- the rows with one face changed
unfoldable pub with_face : {K : Type 0} → ℕ → (Face K → Face K) → Rows K → Rows K
with_face n change g = record g { faces = map (λ f. if n == f.number then change f else f) g.faces }

-- faces of some regions hear of tokens by trees, not by these rules
abbrev pub is_routed : {K : Type 0} → Rows K → Face K → Bool
is_routed g f = (hat_of_face g f).goes_by_trees

-- the id under which a face was told an expression
unfoldable pub told_id : {K : Type 0} → (K → K → Ordering) → K → ById K → Option ℕ
told_id cmp e [] = None
told_id cmp e (row ∷ rows) = if same cmp e row.1 then Some row.0 else told_id cmp e rows

-- ---- opening a face

-- a new face, under the next number
abbrev pub new_face : {K : Type 0} → ℕ → Region → Bound → WhatAmI → Zid → ℕ → Face K
new_face number region bound mode zid first =
    record { number = number; region = region; bound = bound; mode = mode; zid = zid; next = first; live = []; told = []; held = []; locals = []; pendings = []; asks = []; initial = None; subscribers = []; queryables = [] }

-- a session is a client's face in the region Local, with the gateway's own zid
abbrev pub opened_session : {K : Type 0} → ℕ → Rows K → Rows K
opened_session first g = record g { made = g.made + 1; faces = g.faces ++ new_face (g.made + 1) Local NorthBound Client g.zid first ∷ [] }

-- one face is sent what a rule gives for it
unfoldable pub to_face : {K : Type 0} → ℕ → (Face K → List (Message K)) → Rows K → Sends K
to_face n rule g = elim (find_face n g) [ None ↦ [] | Some f ↦ map (λ m. (n, m)) (rule f) ]

module _ {K : Type 0} (cmp : K → K → Ordering) (matching : K → K → Bool) where
  -- what the parts say, each over the rows that the earlier ones leave
  unfoldable pub said_by : List (Part K) → Rows K → Sends K
  said_by [] g = []
  said_by (Alter change ∷ parts) g = said_by parts (change g)
  said_by (Say rule ∷ parts) g = let ss = rule g in ss ++ said_by parts (rows_heard cmp ss g)

  -- what the parts change beside what is said
  unfoldable pub altered_by : List (Part K) → Rows K → Rows K
  altered_by [] g = g
  altered_by (Alter change ∷ parts) g = altered_by parts (change g)
  altered_by (Say rule ∷ parts) g = altered_by parts g

-- the parts, but what they say to one face
unfoldable pub unsaid_to : {K : Type 0} → ℕ → List (Part K) → List (Part K)
unsaid_to n [] = []
unsaid_to n (Alter change ∷ parts) = Alter change ∷ unsaid_to n parts
unsaid_to n (Say rule ∷ parts) = Say (λ g. filter (λ s. not (n == s.0)) (rule g)) ∷ unsaid_to n parts
