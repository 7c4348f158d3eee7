-- Why a line is refused, where enough ids are left.
use Rattle.std.specs.Prelude.{ℕ, Bool, true, false, ◌==◌, ◌+◌, ◌&&◌, ◌||◌, not, nat_le, nat_lt, List, [], ◌∷◌, length, Option, Some, None, is_none, is_some, Ok, Err}
use Rattle.std.specs.List.{list_any}
use Rattle.std.specs.declared.cmp.Ordering.{Ordering}
use Rattle.zt_region.specs.declared.region.Region.{Region}
use Rattle.zt_region.specs.declared.region.WhatAmI.{WhatAmI}
use Rattle.zt_region.specs.Region.{is_north}
use Rattle.zt_region.specs.Tables.{RegionAnswer}
use Rattle.zt_protocol.specs.Plain.{PlainLine}
use Rattle.zt_protocol.specs.Refusal.{number_of}
use Rattle.zt_protocol.specs.declared.errors.Refusal.{Refusal}
use Rattle.zt_protocol.specs.declared.errors.Refusal.TheVariants as refusal
use Rattle.zt_protocol.specs.declared.errors.Refusal.TheVariants.{IdsSpent}
use Rattle.zt_model.specs.Fabric.{CallAt, is_full, is_linked_face, is_open_link, is_unknown_gateway, is_without_trees_above, line_causes}
use Rattle.zt_model.specs.Hat.{hat_of, north_hat}
use Rattle.zt_model.specs.Linking.{climbs_to, is_answer, oldest}
use Rattle.zt_model.specs.Places.{Fabric, Node}
use Rattle.zt_model.specs.Lists.{is_some_and, nth}
use Rattle.zt_model.specs.Refusals.{GREATEST_NUMBER, first_cause, is_north_taken, left_ids}
use Rattle.zt_model.specs.Strategy.{is_region_of}
use Rattle.zt_model.specs.Transcript.{comes_to_ids, line_may_lack_ids, most_ids}
use Rattle.zt_check_causes.specs.Causes.{call_cause}

module _ {K : Type 0} (cmp : K → K → Ordering) (matching : K → K → Bool) where
  -- why a line is refused
  unfoldable pub line_cause : PlainLine K → Fabric K → Option Refusal
  line_cause line s = first_cause (line_causes cmp matching false line s)

  -- why a call is refused at its gateway
  abbrev pub cause_at : Option (CallAt K) → Option Refusal
  cause_at None = None
  cause_at (Some at) = call_cause cmp matching at.call at.rows

-- a cause, and where there is none another
abbrev pub or_cause : Option Refusal → Option Refusal → Option Refusal
or_cause None later = later
or_cause (Some first) later = Some first

-- a cause, where a test says so
abbrev pub cause_if : Bool → Refusal → Option Refusal
cause_if true cause = Some cause
cause_if false cause = None

-- two refusals are one, by their numbers
abbrev pub is_same : Refusal → Refusal → Bool
is_same a b = number_of a == number_of b

-- a message waits in a direction of a link
abbrev pub waits : {K : Type 0} → Fabric K → ℕ → Bool → Bool
waits s link back = is_some_and (nth link s.links) (λ l. is_some (oldest s l back))

-- ---- single lines, by the cause of their call, where they make one

-- why a session isn't opened
abbrev pub session_cause : {K : Type 0} → Fabric K → ℕ → Option Refusal
session_cause s gateway = or_cause (cause_if (is_unknown_gateway s gateway) refusal.UnknownGateway) (cause_if (is_full s.faces) refusal.NumbersSpent)

-- why a line isn't carried out that names a gateway
abbrev pub cause_at_gateway : {K : Type 0} → Fabric K → ℕ → Option Refusal → Option Refusal
cause_at_gateway s gateway called = or_cause (cause_if (is_unknown_gateway s gateway) refusal.UnknownGateway) called

-- why a transport isn't opened
abbrev pub face_cause : {K : Type 0} → Fabric K → ℕ → Option Refusal → Option Refusal
face_cause s gateway called = or_cause (cause_at_gateway s gateway called) (cause_if (is_full s.faces) refusal.NumbersSpent)

-- why a face may not speak so, whose call is this
abbrev pub speaking_cause : {K : Type 0} → Fabric K → Option (CallAt K) → Option ℕ → Option Refusal → Option Refusal
speaking_cause s made face called =
    or_cause (cause_if (is_none made) refusal.UnknownFace) (or_cause (cause_if (is_linked_face s face) refusal.LinkedFace) called)

-- why a link isn't closed
abbrev pub unlink_cause : {K : Type 0} → Fabric K → ℕ → Option Refusal
unlink_cause s link = cause_if (not (is_open_link s link)) refusal.UnknownLink

-- why the oldest message of a direction of a link isn't delivered
abbrev pub step_cause : {K : Type 0} → Fabric K → ℕ → Bool → Option Refusal → Option Refusal
step_cause s link back called = or_cause (unlink_cause s link) (or_cause (cause_if (not (waits s link back)) refusal.EmptyLink) called)

-- ---- gateways

-- a pair names a region that a gateway with these in the south doesn't have
abbrev pub names_other_region : List Region → Region × Region → Bool
names_other_region regions pair = not (is_region_of regions pair.0) || not (is_region_of regions pair.1)

-- why a gateway isn't made
unfoldable pub gateway_cause : {K : Type 0} → WhatAmI → List Region → List (Region × Region) → Fabric K → Option Refusal
gateway_cause mode regions refused s =
    first_cause (
    (list_any (names_other_region regions) refused, refusal.NoSuchRegion)
    ∷ (list_any (is_without_trees_above mode) regions, refusal.RegionConflict)
    ∷ (is_full s.gateways, refusal.NumbersSpent)
    ∷ [])

-- ---- links

-- what an end comes to is no region
abbrev pub is_refused_answer : RegionAnswer → Bool
is_refused_answer answer = elim answer [ Ok given ↦ false | Err e ↦ true ]

abbrev pub names_no_region : {K : Type 0} → Node K → RegionAnswer → Bool
names_no_region node answer = is_answer answer (λ region bound. not (is_region_of node.rows.regions region))

abbrev pub misfits : {K : Type 0} → Node K → Node K → RegionAnswer → Bool
misfits node other answer = is_answer answer (λ region bound. not ((hat_of node.rows.mode region).fits region other.rows.mode bound))

abbrev pub is_taken : {K : Type 0} → Node K → RegionAnswer → Bool
is_taken node answer = is_answer answer (λ region bound. is_north_taken region node.rows)

abbrev pub closes_loop_at : {K : Type 0} → Fabric K → ℕ → Node K → ℕ → RegionAnswer → Bool
closes_loop_at s gateway node beyond answer =
    is_answer answer (λ region bound. (north_hat node.rows.mode).has_one_face && (is_north region && climbs_to (length s.gateways) s beyond gateway))

-- why a link isn't made between two gateways, by what its ends come to
unfoldable pub ends_cause : {K : Type 0} → Fabric K → ℕ → Node K → RegionAnswer → ℕ → Node K → RegionAnswer → Option Refusal
ends_cause s one near there two far back =
    first_cause (
    (names_no_region near there || names_no_region far back, refusal.NoSuchRegion)
    ∷ ((is_refused_answer there || is_refused_answer back) || (misfits near far there || misfits far near back), refusal.RegionConflict)
    ∷ (is_taken near there || is_taken far back, refusal.NorthTaken)
    ∷ (closes_loop_at s one near two there || closes_loop_at s two far one back, refusal.WouldLoop)
    ∷ (nat_le GREATEST_NUMBER (length s.faces + 1) || is_full s.links, refusal.NumbersSpent)
    ∷ [])

-- ---- ids

module _ {K : Type 0} (cmp : K → K → Ordering) (matching : K → K → Bool) where
  -- some face of the gateway may have too few ids left
  abbrev pub has_face_that_may_lack : Node K → Bool
  has_face_that_may_lack node = list_any (λ f. nat_lt (left_ids f) (most_ids cmp matching node.rows f)) node.rows.faces

  -- A line is refused by this cause, where `cause` is its first if enough ids are left: it is that one, or it says that
  -- too few are left where no earlier cause holds and the line could draw more.
  abbrev pub is_refused_by : PlainLine K → Fabric K → Option Refusal → Refusal → Bool
  is_refused_by line s cause given =
      is_some_and cause (is_same given) || (is_same given IdsSpent && (comes_to_ids cause && line_may_lack_ids cmp matching line s))
