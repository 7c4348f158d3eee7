-- The one call of a line, why a line is refused, and what waits after one.
use Rattle.std.specs.Prelude.{ℕ, Bool, true, false, ◌==◌, ◌+◌, ◌&&◌, ◌||◌, not, nat_le, List, [], ◌∷◌, ◌++◌, length, Option, Some, None, Ok, Err, filter}
use Rattle.std.specs.List.{list_any}
use Rattle.std.specs.declared.cmp.Ordering.{Ordering}
use Rattle.zt_region.specs.declared.region.WhatAmI.{WhatAmI}
use Rattle.zt_region.specs.Region.{is_north}
use Rattle.zt_region.specs.South.{PlainPeer, PlainSouth, transient_bound}
use Rattle.zt_region.specs.Tables.{RegionAnswer, region_of}
use Rattle.zt_protocol.specs.Plain.{PlainCall, PlainLine, NewTransport, Session, Face as FaceLine, Link as LinkLine}
use Rattle.zt_protocol.specs.declared.entries.Sent.{Sent}
use Rattle.zt_protocol.specs.declared.errors.Refusal.{Refusal}
use Rattle.zt_protocol.specs.declared.errors.Refusal.TheVariants as refusal
use Rattle.zt_model.specs.Fabric.{CallAt, Fabric, Node, after_opening, at_nth, line_causes, call_at, is_full, is_region_of, line_spends_ids, opened_at, said_at}
use Rattle.zt_model.specs.Hat.{hat_of, north_hat}
use Rattle.zt_model.specs.Journal.{cause_of}
use Rattle.zt_model.specs.Linking.{climbs_to, end_region, is_answer}
use Rattle.zt_model.specs.Lists.{without_id}
use Rattle.zt_model.specs.Refusals.{GREATEST_NUMBER, first_cause, is_north_taken}
use Rattle.zt_link_queues.specs.Waiting.{with_printed}

-- a call by the number of its gateway, where there is one
abbrev pub made_at : {K : Type 0} → Fabric K → Option (ℕ × PlainCall K) → Option (CallAt K)
made_at s None = None
made_at s (Some made) = call_at s made.0 made.1

-- the messages that are for neither of two faces
abbrev pub for_others : {K : Type 0} → ℕ → ℕ → List (Sent K) → List (Sent K)
for_others one two ms = filter (λ m. not (list_any (λ face. face == m.face) (one ∷ two ∷ []))) ms

-- the link at a place is closed, what waits at its ends is dropped, and messages wait
abbrev pub parted : {K : Type 0} → ℕ → ℕ → ℕ → List (Sent K) → Fabric K → Fabric K
parted at one two ms s =
    record s {
      links = at_nth (at + 1) (λ l. record l { is_open = false }) s.links;
      waiting = without_id one (without_id two (with_printed ms s.waiting));
    }

-- a link between two faces is put behind the others, and messages wait
abbrev pub joined : {K : Type 0} → ℕ → ℕ → List (Sent K) → Fabric K → Fabric K
joined one two ms s =
    record s {
      links = s.links ++ record { one = one; two = two; is_open = true } ∷ [];
      waiting = with_printed ms s.waiting;
    }

module _ {K : Type 0} (cmp : K → K → Ordering) (matching : K → K → Bool) where
  -- why a call is refused at its gateway
  abbrev pub cause_at : Option (CallAt K) → Option Refusal
  cause_at None = None
  cause_at (Some at) = cause_of cmp matching at.call at.rows

  -- why a line is refused
  unfoldable pub cause_of_line : PlainLine K → Fabric K → Option Refusal
  cause_of_line line s = first_cause (line_causes cmp matching (line_spends_ids cmp matching line s) line s)

-- a cause, and where there is none another
abbrev pub or_cause : Option Refusal → Option Refusal → Option Refusal
or_cause None later = later
or_cause (Some first) later = Some first

-- a cause, where a test says so
abbrev pub cause_if : Bool → Refusal → Option Refusal
cause_if true cause = Some cause
cause_if false cause = None

-- lines that open one face
abbrev pub is_opening : {K : Type 0} → PlainLine K → Bool
is_opening (Session gateway first) = true
is_opening (FaceLine gateway mode zid region bound first) = true
is_opening _ = false

-- what the two ends of a link come to for one of them: its peer as the other sees it, the other one, its mode and
-- configuration, and those of the other
abbrev pub agreed : PlainPeer → PlainPeer → WhatAmI → PlainSouth → WhatAmI → PlainSouth → RegionAnswer
agreed peer beyond mode south other_mode other_south =
    elim (transient_bound peer other_mode other_south) [ Ok bound ↦ region_of beyond mode south bound | Err e ↦ Err e ]

module _ {K : Type 0} (cmp : K → K → Ordering) (matching : K → K → Bool) where
  -- a face is opened at a gateway by a call, and hears what is said then
  abbrev pub opened_by_call : ℕ → PlainCall K → Fabric K → Fabric K
  opened_by_call n c s = after_opening cmp matching (call_at s n c) s

  -- the face at an end of a link is opened
  abbrev pub opened_end : ℕ → PlainCall K → Fabric K → Fabric K
  opened_end n c s = record (opened_by_call n c s) { waiting = s.waiting ++ (length s.faces + 1, []) ∷ [] }

  abbrev pub said_by_opening : ℕ → PlainCall K → Fabric K → List (Sent K)
  said_by_opening n c s = said_at cmp matching (opened_at cmp matching (call_at s n c) s) (call_at s n c)

-- the call that opens an end, by the gateway beyond it and what it comes to
abbrev pub call_to_open : {K : Type 0} → Node K → RegionAnswer → ℕ → Option (PlainCall K)
call_to_open other answer first =
    elim answer [ Ok given ↦ Some (NewTransport other.rows.zid other.rows.mode given.0 given.1 first) | Err e ↦ None ]

abbrev pub is_refused_answer : RegionAnswer → Bool
is_refused_answer answer = elim answer [ Ok given ↦ false | Err e ↦ true ]

-- why the faces of a link's two ends are refused, by what the ends come to
abbrev pub regions_cause : {K : Type 0} → Node K → RegionAnswer → Node K → RegionAnswer → Option Refusal
regions_cause a near b far =
    or_cause (cause_if (is_answer near (λ region bound. not (is_region_of a.rows.regions region)) || is_answer far (λ region bound. not (is_region_of b.rows.regions region))) refusal.NoSuchRegion)
    (or_cause (cause_if ((is_refused_answer near || is_refused_answer far) || (is_answer near (λ region bound. not ((hat_of a.rows.mode region).fits region b.rows.mode bound)) || is_answer far (λ region bound. not ((hat_of b.rows.mode region).fits region a.rows.mode bound)))) refusal.RegionConflict)
    (cause_if (is_answer near (λ region bound. is_north_taken region a.rows) || is_answer far (λ region bound. is_north_taken region b.rows)) refusal.NorthTaken))

-- an end closes a loop of gateways that have one face each to the north
abbrev pub closes_loop_at : {K : Type 0} → Fabric K → Node K → RegionAnswer → ℕ → ℕ → Bool
closes_loop_at s node answer beyond gateway =
    is_answer answer (λ region bound. (north_hat node.rows.mode).has_one_face && (is_north region && climbs_to (length s.gateways) s beyond gateway))

module _ {K : Type 0} (cmp : K → K → Ordering) (matching : K → K → Bool) where
  -- why a link isn't made, where the regions of its ends refuse nothing
  abbrev pub later_cause : ℕ → ℕ → ℕ → ℕ → Fabric K → Node K → RegionAnswer → Node K → RegionAnswer → Option Refusal
  later_cause one two first back s a near b far =
      or_cause (cause_if (closes_loop_at s a near two one || closes_loop_at s b far one two) refusal.WouldLoop)
      (or_cause (cause_if (line_spends_ids cmp matching (LinkLine one two first back) s) refusal.IdsSpent)
      (cause_if (nat_le GREATEST_NUMBER (length s.faces + 1) || is_full s.links) refusal.NumbersSpent))

-- the call that opens the face of a gateway to another, where both exist and it has a region
abbrev pub opening_call : {K : Type 0} → Option (Node K) → Option (Node K) → ℕ → Option (PlainCall K)
opening_call None other first = None
opening_call (Some own) None first = None
opening_call (Some own) (Some other) first =
    elim (end_region own other) [ Ok given ↦ Some (NewTransport other.rows.zid other.rows.mode given.0 given.1 first) | Err e ↦ None ]
