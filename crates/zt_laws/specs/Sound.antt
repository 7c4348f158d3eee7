-- The words for what stays true of a gateway while calls are carried out: first ids, numbers that rise, told ids in order.
use Rattle.std.specs.Prelude.{◌≡◌, ℕ, ◌+◌, ◌≤◌, ◌<◌, Bool, true, false, ◌==◌, ◌&&◌, List, [], ◌∷◌, filter}
use Rattle.std.specs.List.{list_any}
use Rattle.std.specs.declared.cmp.Ordering.{Ordering}
use Rattle.zt_protocol.specs.Plain.{PlainCall, NewSession, NewTransport, PlainLine, Session, Face as FaceLine, Link as LinkLine}
use Rattle.zt_model.specs.Fabric.{Place}
use Rattle.zt_model.specs.Hearing.{rows_heard}
use Rattle.zt_model.specs.Lists.{same}
use Rattle.zt_model.specs.Rows.{ById, Face, Rows}
use Rattle.zt_model.specs.Says.{altered, said}
use Rattle.zt_model.specs.Transcript.{Each}

-- the first ids that a line names are at least 1: with the id 0 nothing is told
abbrev pub HasFirstIds : {K : Type 0} → PlainLine K → Type 0
HasFirstIds (Session gateway first) = 1 ≤ first
HasFirstIds (FaceLine gateway mode zid region bound first) = 1 ≤ first
HasFirstIds (LinkLine one two first back) = (1 ≤ first) × (1 ≤ back)
HasFirstIds _ = Unit {0}

-- the same of a call that opens a face
abbrev pub CallHasFirstIds : {K : Type 0} → PlainCall K → Type 0
CallHasFirstIds (NewSession first) = 1 ≤ first
CallHasFirstIds (NewTransport zid whatami region remote_bound first) = 1 ≤ first
CallHasFirstIds _ = Unit {0}

-- whether a call opens a face
abbrev pub opens_face : {K : Type 0} → PlainCall K → Bool
opens_face (NewSession first) = true
opens_face (NewTransport zid whatami region remote_bound first) = true
opens_face _ = false

-- the numbers that a key gives rise, from `low` on
abbrev pub RiseFrom : {A : Type 0} → (A → ℕ) → ℕ → List A → Type 0
RiseFrom key low [] = Unit {0}
RiseFrom key low (x ∷ xs) = (low ≤ key x) × RiseFrom key (key x + 1) xs

-- a fact of each member and its number, counted from i
abbrev pub EachFrom : {A : Type 0} → (ℕ → A → Type 0) → ℕ → List A → Type 0
EachFrom P i [] = Unit {0}
EachFrom P i (x ∷ xs) = P i x × EachFrom P (i + 1) xs

-- whether a gateway's face has a number in scripts
abbrev pub is_placed : ℕ → ℕ → List Place → Bool
is_placed gateway face places = list_any (λ p. (gateway == p.gateway) && (face == p.face)) places

-- the places of a gateway's faces
abbrev pub places_of : ℕ → List Place → List Place
places_of gateway places = filter (λ p. gateway == p.gateway) places

module _ {K : Type 0} (cmp : K → K → Ordering) where
  -- no expression stands under two ids
  abbrev pub NamesOnce : ById K → Type 0
  NamesOnce [] = Unit {0}
  NamesOnce (row ∷ rows) = (list_any (λ other. same cmp row.1 other.1) rows ≡ false) × NamesOnce rows

  -- told ids rise from 1 and are below the next one, and each expression has one of them
  pub record IsToldInOrder (told : ById K) (next : ℕ) : Type 0 where
    pub next_is_real : 1 ≤ next
    pub rises : RiseFrom (λ row. row.0) 1 told
    pub below : Each (λ row. row.0 < next) told
    pub once : NamesOnce told

  -- the told rows of a face are in order, and the ids of its live tokens rise
  pub record IsOrderly (f : Face K) : Type 0 where
    pub told : IsToldInOrder f.told f.next
    pub live_rises : RiseFrom (λ row. row.0) 0 f.live

module _ {K : Type 0} (cmp : K → K → Ordering) (matching : K → K → Bool) where
  -- the rows that an accepted call leaves: what it changes itself, and what its messages change at the faces
  abbrev pub rows_after_call : PlainCall K → Rows K → Rows K
  rows_after_call c g = rows_heard cmp (said cmp matching c g) (altered cmp matching c g)
