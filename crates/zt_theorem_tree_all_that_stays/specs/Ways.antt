-- Ways up a tree, from face to face: a token that stays live along one, and an ask that is followed along another. A way
-- is the faces that it takes, two for each joint: the face to the north of a gateway, and the face above that it leads to.
use Rattle.std.specs.Prelude.{◌≡◌, ◌⊎◌, ℕ, ◌≤◌, Bool, true, false, List, [], ◌∷◌, Some, None}
use Rattle.std.specs.declared.cmp.Ordering.{Ordering}
use Rattle.zt_region.specs.Region.{is_north}
use Rattle.zt_protocol.specs.Interest.{is_future}
use Rattle.zt_protocol.specs.declared.messages.Message.TheVariants.{Interest}
use Rattle.zt_model.specs.Fabric.{Fabric, Node, Place}
use Rattle.zt_model.specs.Linking.{waiting_of}
use Rattle.zt_model.specs.Lists.{at_id, has_id, is_among, nth}
use Rattle.zt_model.specs.Parts.{find_face}
use Rattle.zt_model.specs.Rows.{Ask, InterestRow}
use Rattle.zt_model.specs.Transcript.{Each, FaceAt, face_numbered}
use Rattle.zt_model.specs.TreePromises.{IsMember, is_live_at}
use Rattle.zt_theorem_tree_invariant.specs.Joints.{are_joined}
use Rattle.zt_theorem_tree_all_that_stays.specs.Steady.{AnswersFirst, FinalIsBelow, IsNoFinal, IsTold, LeavesRow, has_row}

-- a face that was closed
pub record IsClosedAt {K : Type 0} (s : Fabric K) (k : ℕ) : Type 0 where
  pub place : Place
  pub node : Node K
  pub place_is : nth k s.faces ≡ Some place
  pub node_is : nth place.gateway s.gateways ≡ Some node
  pub gone : find_face place.face node.rows ≡ None

-- a face that leads down, the face to the north of its gateway, and the face above that it is joined to
pub record IsAbove {K : Type 0} (s : Fabric K) (k a b : ℕ) (own lower upper : FaceAt K) : Type 0 where
  pub own_is : face_numbered s k ≡ Some own
  pub lower_is : face_numbered s a ≡ Some lower
  pub upper_is : face_numbered s b ≡ Some upper
  pub down : is_north own.face.region ≡ false
  pub up : is_north lower.face.region ≡ true
  pub joined : are_joined s a b ≡ true
  pub beside : lower.gateway ≡ own.gateway

-- one step up, where finals that fall are of interests that were sent up
pub record IsStepUp {K : Type 0} (s : Fabric K) (k a b : ℕ) : Type 0 where
  pub own : FaceAt K
  pub lower : FaceAt K
  pub upper : FaceAt K
  pub above : IsAbove s k a b own lower upper
  pub finals : Each (FinalIsBelow lower.face.next) (waiting_of s b)

-- the way leads from a face up to a gateway
abbrev pub LeadsUpTo : {K : Type 0} → Fabric K → ℕ → List (ℕ × ℕ) → ℕ → Type 0
LeadsUpTo {K} s k [] top = (x : FaceAt K) × (face_numbered s k ≡ Some x) × (x.gateway ≡ top)
LeadsUpTo s k (step ∷ way) top = IsStepUp s k step.0 step.1 × LeadsUpTo s step.1 way top

module _ {K : Type 0} (cmp : K → K → Ordering) (matching : K → K → Bool) (e : K) where
  -- the expression is live at a face that leads down
  pub record LivesAt (s : Fabric K) (k : ℕ) : Type 0 where
    pub own : FaceAt K
    pub own_is : face_numbered s k ≡ Some own
    pub down : is_north own.face.region ≡ false
    pub live : is_live_at cmp matching own.face e ≡ true

  -- The expression was told upward under an id, is live above under it, and nothing that rises takes it.
  pub record IsCarried (s : Fabric K) (k a b : ℕ) : Type 0 where
    pub own : FaceAt K
    pub lower : FaceAt K
    pub upper : FaceAt K
    pub above : IsAbove s k a b own lower upper
    pub id : ℕ
    pub real : 1 ≤ id
    pub told : IsTold cmp id e lower.face
    pub live : has_row cmp id e upper.face.live ≡ true
    pub rising : Each (LeavesRow cmp id e) (waiting_of s a)

  -- so it is from face to face, up to a gateway
  abbrev pub IsCarriedUp : Fabric K → ℕ → List (ℕ × ℕ) → ℕ → Type 0
  IsCarriedUp s k [] top = (x : FaceAt K) × (face_numbered s k ≡ Some x) × (x.gateway ≡ top)
  IsCarriedUp s k (step ∷ way) top = IsCarried s k step.0 step.1 × IsCarriedUp s step.1 way top

  -- What serves a pending: its interest still rises, or an answer falls with no final before it, or its ask stands above.
  abbrev pub IsServedBy : InterestRow K → Fabric K → ℕ → ℕ → ℕ → (ℕ → Type 0) → Type 0
  IsServedBy i s a b pending Asks =
      (IsMember (Interest pending i.mode i.options i.expr) (waiting_of s a) × Each (IsNoFinal pending) (waiting_of s b))
      ⊎ (AnswersFirst cmp pending e (waiting_of s b) ⊎ (Asks pending × Each (IsNoFinal pending) (waiting_of s b)))

  -- An ask that isn't answered the expression waits for a pending that stands and is served. Where it asks for what comes
  -- later too, its interest stands sent up.
  pub record AsksAbove (i : InterestRow K) (s : Fabric K) (k id a b : ℕ) (Asks : ℕ → Type 0) : Type 0 where
    pub own : FaceAt K
    pub lower : FaceAt K
    pub upper : FaceAt K
    pub above : IsAbove s k a b own lower upper
    pub ask : Ask K
    pub ask_is : at_id id own.face.asks ≡ Some ask
    pub interest : ask.interest ≡ i
    pub unanswered : is_among cmp e ask.answered ≡ false
    pub pending : ℕ
    pub pendings : ask.pendings ≡ (lower.face.number, pending) ∷ []
    pub stands : has_id pending lower.face.pendings ≡ true
    pub sent : is_future i.mode ≡ true → at_id pending lower.face.locals ≡ Some i
    pub served : IsServedBy i s a b pending Asks

  -- An ask that isn't answered is followed up its way. At the end of the way, where the expression is live, there is none.
  abbrev pub IsFollowed : InterestRow K → Fabric K → List (ℕ × ℕ) → ℕ → ℕ → Type 0
  IsFollowed i s [] k id = ⊥
  IsFollowed i s (step ∷ way) k id = AsksAbove i s k id step.0 step.1 (λ pending. IsFollowed i s way step.1 pending)

  -- The ask is pursued up its way to a gateway, up to which the expression is carried from a face where it is live.
  pub record IsPursued (i : InterestRow K) (s : Fabric K) (face id plain : ℕ) (way up : List (ℕ × ℕ)) (top : ℕ) : Type 0 where
    pub carried : IsCarriedUp s plain up top
    pub lives : LivesAt s plain
    pub leads : LeadsUpTo s face way top
    pub followed : IsFollowed i s way face id
