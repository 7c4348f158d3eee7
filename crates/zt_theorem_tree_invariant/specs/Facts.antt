-- What is true of a fabric of trees after every line, in whatever order links are opened, closed and stepped. Of each
-- joint: what waits makes of the one end's rows what the other end was told. Where nothing waits, live tokens are told
-- ones and held interests are local ones, and that carries knowledge from gateway to gateway. Only a step that is refused
-- for want of ids breaks it: its message has left the link, and no row comes of it. Interests without tokens are left out,
-- since a full dictionary refuses them; any other step that is refused has a message that makes nothing of the rows.
use Rattle.std.specs.Prelude.{◌≡◌, ◌⊎◌, ℕ, ◌≤◌, ◌<◌, ◌+◌, max, Bool, true, false, ◌==◌, ◌&&◌, not, List, [], ◌∷◌, length, Some, None, filter}
use Rattle.std.specs.List.{list_any}
use Rattle.std.specs.declared.cmp.Ordering.{Ordering}
use Rattle.zt_region.specs.declared.region.Bound.TheVariants.{South as SouthBound}
use Rattle.zt_region.specs.declared.region.WhatAmI.{WhatAmI}
use Rattle.zt_region.specs.declared.region.WhatAmI.TheVariants.{Client}
use Rattle.zt_region.specs.Region.{is_north, zid_eq}
use Rattle.zt_protocol.specs.Interest.{is_current, is_future, has_tokens}
use Rattle.zt_protocol.specs.declared.messages.Message.{Message}
use Rattle.zt_protocol.specs.declared.messages.Message.TheVariants.{DeclareToken, UndeclareToken, Interest, InterestFinal}
use Rattle.zt_protocol.specs.declared.interests.InterestMode.{InterestMode}
use Rattle.zt_model.specs.Fabric.{Fabric, Node}
use Rattle.zt_model.specs.Hat.{hat_of}
use Rattle.zt_model.specs.Hearing.{put_if, told_pair, untold}
use Rattle.zt_model.specs.Lists.{same, without_id}
use Rattle.zt_model.specs.Refusals.{GREATEST_DICTIONARY}
use Rattle.zt_model.specs.Routing.{asks_same}
use Rattle.zt_model.specs.Rows.{Ask, ById, Face, InterestRow, Pending, Rows}
use Rattle.zt_model.specs.Transcript.{Each}
use Rattle.zt_model.specs.Wants.{kept_options}
use Rattle.zt_theorem_tree_invariant.specs.Joints.{EachJoint, IsForest, LinksStand}

-- ---- what waits makes of interests

-- the rows of interests in tokens
abbrev pub token_interests : {K : Type 0} → ById (InterestRow K) → ById (InterestRow K)
token_interests rows = filter (λ row. has_tokens row.1.options) rows

-- the interests in tokens that a face holds once it has spoken a message
abbrev pub interests_by : {K : Type 0} → Message K → ById (InterestRow K) → ById (InterestRow K)
interests_by (Interest id mode options e) rows = put_if (is_future mode && has_tokens options) id (record { mode = mode; options = options; expr = e }) rows
interests_by (InterestFinal id) rows = without_id id rows
interests_by _ rows = rows

abbrev pub interests_after : {K : Type 0} → List (Message K) → ById (InterestRow K) → ById (InterestRow K)
interests_after [] rows = rows
interests_after (m ∷ ms) rows = interests_after ms (interests_by m rows)

-- ---- ids that rise

-- one more than the greatest id
abbrev pub top_of : {A : Type 0} → ById A → ℕ
top_of [] = 0
top_of (row ∷ rows) = max (row.0 + 1) (top_of rows)

-- the ids of interests rise, from `low` on and below `high`
abbrev pub InterestsRise : {K : Type 0} → ℕ → List (Message K) → ℕ → Type 0
InterestsRise low [] high = low ≤ high
InterestsRise low (Interest id mode options e ∷ ms) high = (low ≤ id) × InterestsRise (id + 1) ms high
InterestsRise low (_ ∷ ms) high = InterestsRise low ms high

-- ---- which messages rise, and which fall

-- Upward go tokens that answer nobody, undeclarations by id, and interests with the options that a client's face keeps.
abbrev pub IsForAbove : {K : Type 0} → Message K → Type 0
IsForAbove (DeclareToken id e interest node) = interest ≡ None
IsForAbove (UndeclareToken id e node) = e ≡ None
IsForAbove (Interest id mode options e) = kept_options Client options ≡ options
IsForAbove (InterestFinal id) = Unit {0}
IsForAbove _ = ⊥

-- Downward go no interests, and answers to interests that were sent up.
abbrev pub IsForBelow : {K : Type 0} → ℕ → Message K → Type 0
IsForBelow next (DeclareToken id e None node) = Unit {0}
IsForBelow next (DeclareToken id e (Some interest) node) = interest < next
IsForBelow next (Interest id mode options e) = ⊥
IsForBelow next (InterestFinal id) = ⊥
IsForBelow next _ = Unit {0}

-- ---- modes

-- both ask for what comes later, or neither does
abbrev pub AgreeInMode : InterestMode → InterestMode → Type 0
AgreeInMode a b = is_future a ≡ is_future b

-- an ask above that an upstream interest has become is of its mode
abbrev pub FitsAsk : {K : Type 0} → ℕ × Pending → ℕ × Ask K → Type 0
FitsAsk pending ask = pending.0 ≡ ask.0 → AgreeInMode pending.1.mode ask.1.interest.mode

-- so is the interest that still rises; and what answers it under a real id answers one that asks for what comes later
abbrev pub FitsRising : {K : Type 0} → ℕ × Pending → Message K → Type 0
FitsRising pending (Interest id mode options e) = pending.0 ≡ id → AgreeInMode pending.1.mode mode
FitsRising pending _ = Unit {0}

abbrev pub FitsFalling : {K : Type 0} → ℕ × Pending → Message K → Type 0
FitsFalling pending (DeclareToken id e (Some interest) node) = pending.0 ≡ interest → ((id == 0) ≡ not (is_future pending.1.mode))
FitsFalling pending _ = Unit {0}

pub record FitsModes {K : Type 0} (upper : Face K) (rising falling : List (Message K)) (pending : ℕ × Pending) : Type 0 where
  pub asked : Each (FitsAsk pending) upper.asks
  pub rises : Each (FitsRising pending) rising
  pub falls : Each (FitsFalling pending) falling

-- ---- a gateway

-- A face that leads up is a client's, to a gateway above; what speaks there holds and asks nothing.
pub record LeadsUp {K : Type 0} (mode : WhatAmI) (f : Face K) : Type 0 where
  pub own : mode ≡ Client
  pub bound : f.bound ≡ SouthBound
  pub held : f.held ≡ []
  pub asks : f.asks ≡ []

-- Any other is a client's, in a region whose faces are shown each other's tokens.
pub record LeadsDown {K : Type 0} (own : WhatAmI) (f : Face K) : Type 0 where
  pub shares : (hat_of own f.region).shares_tokens ≡ true
  pub mode : f.mode ≡ Client
  pub held : Each (λ row. kept_options Client row.1.options ≡ row.1.options) f.held

-- interests were sent up under ids that were drawn
abbrev pub LocalsAreDrawn : {K : Type 0} → Face K → Type 0
LocalsAreDrawn f = Each (λ row. row.0 < f.next) f.locals

pub record IsTreeFace {K : Type 0} (mode : WhatAmI) (f : Face K) : Type 0 where
  pub up : is_north f.region ≡ true → LeadsUp mode f
  pub down : is_north f.region ≡ false → LeadsDown mode f

module _ {K : Type 0} (cmp : K → K → Ordering) where
  -- ---- what waits makes of tokens

  -- the live tokens of a face once it has spoken a message
  abbrev pub tokens_by : Message K → ById K → ById K
  tokens_by (DeclareToken id e interest node) rows = told_pair cmp id e rows
  tokens_by (UndeclareToken id e node) rows = untold cmp id e rows
  tokens_by _ rows = rows

  abbrev pub tokens_after : List (Message K) → ById K → ById K
  tokens_after [] rows = rows
  tokens_after (m ∷ ms) rows = tokens_after ms (tokens_by m rows)

  -- A token that is declared under a real id has a greater one than all before it, or stands there already; and what is
  -- undeclared by expression isn't there.
  abbrev pub IsClear : Message K → ById K → Type 0
  IsClear (DeclareToken id e interest node) rows =
      (id ≡ 0) ⊎ ((list_any (λ row. (id == row.0) && same cmp e row.1) rows ≡ true) ⊎ Each (λ row. row.0 < id) rows)
  IsClear (UndeclareToken id (Some e) node) rows = (id ≡ 0) × (list_any (λ row. same cmp e row.1) rows ≡ false)
  IsClear _ rows = Unit {0}

  abbrev pub AreClear : List (Message K) → ById K → Type 0
  AreClear [] rows = Unit {0}
  AreClear (m ∷ ms) rows = IsClear m rows × AreClear ms (tokens_by m rows)

  -- ---- a joint

  -- What waits on an open link: tokens and interests reach the other end as they were told, under ids that rise, and
  -- asks keep the mode of the interest that they were sent as.
  pub record JointAgrees (lower upper : Face K) (rising falling : List (Message K)) : Type 0 where
    pub tokens_above : tokens_after rising upper.live ≡ lower.told
    pub tokens_below : tokens_after falling lower.live ≡ upper.told
    pub interests_above : interests_after rising (token_interests upper.held) ≡ token_interests lower.locals
    pub clear_above : AreClear rising upper.live
    pub clear_below : AreClear falling lower.live
    pub ids_rise : InterestsRise (max (top_of upper.held) (top_of upper.asks)) rising lower.next
    pub locals_below : Each (λ row. row.0 < lower.next) lower.locals
    pub pendings_below : Each (λ row. row.0 < lower.next) lower.pendings
    pub told_below_above : Each (λ row. row.0 < upper.next) upper.told
    pub told_below : Each (λ row. row.0 < lower.next) lower.told
    pub live_real : Each (λ row. 1 ≤ row.0) lower.live
    pub for_above : Each IsForAbove rising
    pub for_below : Each (IsForBelow lower.next) falling
    pub modes : Each (FitsModes upper rising falling) lower.pendings

module _ {K : Type 0} (cmp : K → K → Ordering) (matching : K → K → Bool) where
  -- an interest in what is there now and later was sent up so, with its expression and options
  abbrev pub AsksAbove : Rows K → InterestRow K → Type 0
  AsksAbove g i =
      Each (λ f. is_north f.region ≡ true → list_any (λ row. (is_current row.1.mode && is_future row.1.mode) && asks_same cmp matching i row.1) f.locals ≡ true) g.faces

  pub record IsTreeGateway (g : Rows K) : Type 0 where
    pub faces : Each (IsTreeFace g.mode) g.faces
    pub one_north : length (filter (λ f. is_north f.region) g.faces) ≤ 1
    pub own_rows : Each (λ row. zid_eq row.source g.zid ≡ true) g.routed
    pub dictionary : length g.dictionary ≤ GREATEST_DICTIONARY
    pub drawn : Each LocalsAreDrawn g.faces
    pub asks_above :
        Each (λ f. is_north f.region ≡ false → Each (λ row. (is_current row.1.mode && has_tokens row.1.options) ≡ true → AsksAbove g row.1) f.held) g.faces

  -- ---- a fabric

  pub record TreesAgree (s : Fabric K) : Type 0 where
    pub gateways : Each (λ (node : Node K). IsTreeGateway node.rows) s.gateways
    pub joints : EachJoint (JointAgrees cmp) s
    pub links : LinksStand s
    pub forest : IsForest s
