-- An open link of a fabric of trees is a joint: a face below, which leads up to another gateway, and the face above that
-- it leads to. What is printed for a face waits to be spoken by the face at the other end, so what waits for the lower
-- face rises and what waits for the upper one falls.
use Rattle.std.specs.Prelude.{◌≡◌, ℕ, ◌≤◌, ◌<◌, Bool, true, false, ◌==◌, ◌&&◌, ◌||◌, not, List, [], ◌∷◌, length, Some}
use Rattle.std.specs.List.{list_any}
use Rattle.zt_region.specs.Region.{is_north}
use Rattle.zt_protocol.specs.Plain.{PlainLine, Link as LinkLine, Unlink, Step, Speak, Moment, SetTreesAt}
use Rattle.zt_protocol.specs.declared.messages.Message.{Message}
use Rattle.zt_model.specs.Fabric.{Fabric, Link}
use Rattle.zt_model.specs.Linking.{is_end_of, waiting_of}
use Rattle.zt_model.specs.Lists.{has_id}
use Rattle.zt_model.specs.Rows.{Face}
use Rattle.zt_model.specs.Transcript.{Each, FaceAt, face_numbered}

abbrev pub joins : ℕ → ℕ → Link → Bool
joins a b link = ((a == link.one) && (b == link.two)) || ((a == link.two) && (b == link.one))

-- an open link has these two faces as its ends
abbrev pub are_joined : {K : Type 0} → Fabric K → ℕ → ℕ → Bool
are_joined s a b = list_any (λ link. link.is_open && joins a b link) s.links

-- a fact of each joint: of its lower face, its upper face, what rises and what falls
abbrev pub EachJoint : {K : Type 0} → (Face K → Face K → List (Message K) → List (Message K) → Type 0) → Fabric K → Type 0
EachJoint {K} P s =
    (a b : ℕ) (x y : FaceAt K) → are_joined s a b ≡ true → face_numbered s a ≡ Some x → face_numbered s b ≡ Some y → is_north x.face.region ≡ true
    → P x.face y.face (waiting_of s a) (waiting_of s b)

-- the two faces that a link joins: both are open, and just one of them leads up
pub record HasBothEnds {K : Type 0} (s : Fabric K) (a b : ℕ) : Type 0 where
  pub one : FaceAt K
  pub two : FaceAt K
  pub one_is : face_numbered s a ≡ Some one
  pub two_is : face_numbered s b ≡ Some two
  pub one_leads_up : is_north two.face.region ≡ not (is_north one.face.region)

-- a face that is joined to another
pub record IsJoined {K : Type 0} (s : Fabric K) (a : ℕ) : Type 0 where
  pub other : ℕ
  pub joined : are_joined s a other ≡ true

-- the ends of links rise: each link was made with two new faces
abbrev pub EndsRise : ℕ → List Link → Type 0
EndsRise low [] = Unit {0}
EndsRise low (link ∷ links) = (low < link.one) × (link.one < link.two) × EndsRise link.two links

-- Links are as they were made: each open one has its two faces, and no face ends two of them. An open face that ends a
-- link is joined by it, since closing a link closes its faces. For an end of an open link messages can wait.
pub record LinksStand {K : Type 0} (s : Fabric K) : Type 0 where
  pub meet : (a b : ℕ) → are_joined s a b ≡ true → HasBothEnds s a b
  pub once : (a b c : ℕ) → are_joined s a b ≡ true → are_joined s a c ≡ true → b ≡ c
  pub stay : (a : ℕ) (x : FaceAt K) → face_numbered s a ≡ Some x → list_any (is_end_of a) s.links ≡ true → IsJoined s a
  pub wait : (a b : ℕ) → are_joined s a b ≡ true → has_id a s.waiting ≡ true
  pub made : Each (λ link. (link.one ≤ length s.faces) × (link.two ≤ length s.faces)) s.links
  pub rise : EndsRise 0 s.links
  pub rows : Each (λ row. row.0 ≤ length s.faces) s.waiting

-- No gateway lies above itself: there is a rank that falls from each gateway to the one above it. Ranks are at most the
-- number of gateways.
pub record IsForest {K : Type 0} (s : Fabric K) : Type 0 where
  pub rank : ℕ → ℕ
  pub within : (n : ℕ) → rank n ≤ length s.gateways
  pub falls : (a b : ℕ) (x y : FaceAt K) → are_joined s a b ≡ true → face_numbered s a ≡ Some x → face_numbered s b ≡ Some y → is_north x.face.region ≡ true → rank y.gateway < rank x.gateway

-- The line is a step, or a call at a face or a gateway: it opens and closes no link, and makes no gateway and no face.
-- It may close a plain face.
abbrev pub is_call_or_step : {K : Type 0} → PlainLine K → Bool
is_call_or_step (Step link back) = true
is_call_or_step (Speak call) = true
is_call_or_step (Moment gateway now) = true
is_call_or_step (SetTreesAt gateway region table) = true
is_call_or_step _ = false

-- the line opens and closes no link
abbrev pub changes_no_link : {K : Type 0} → PlainLine K → Bool
changes_no_link (LinkLine one two first back) = false
changes_no_link (Unlink link) = false
changes_no_link _ = true
