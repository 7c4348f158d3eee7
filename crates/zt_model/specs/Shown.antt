-- What a transcript shows of a gateway: the rows that an accepted call leaves, by cases on the call. It is a fold of
-- the transcript's own: what a call says isn't asked, and the messages that are printed change faces beside it, as
-- Hearing has it. What a call does to a face's rows is said here by words of its own, and not by the machine's: a fault
-- in those shows in what a transcript shows. A transcript shows no own rows of router regions.
use Rattle.std.specs.Prelude.{ℕ, Bool, true, false, ◌+◌, ◌-◌, ◌==◌, ◌&&◌, ◌||◌, nat_le, not, if◌then◌else◌, List, [], ◌∷◌, ◌++◌, Option, Some, None, option_map, map, filter}
use Rattle.std.specs.Ordering.{nat_cmp}
use Rattle.std.specs.declared.cmp.Ordering.{Ordering}
use Rattle.std.specs.FinMap.Entries.{put}
use Rattle.zt_region.specs.declared.region.Bound.{Bound}
use Rattle.zt_region.specs.declared.region.Bound.TheVariants.{North as NorthBound}
use Rattle.zt_region.specs.declared.region.Region.{Region}
use Rattle.zt_region.specs.declared.region.Region.TheVariants.{Local}
use Rattle.zt_region.specs.declared.region.WhatAmI.{WhatAmI}
use Rattle.zt_region.specs.declared.region.WhatAmI.TheVariants.{Peer, Client}
use Rattle.zt_region.specs.declared.region.Zid.{Zid}
use Rattle.zt_region.specs.Region.{bound_eq, is_north, whatami_eq, zid_eq}
use Rattle.zt_protocol.specs.Interest.{is_current, is_future, has_tokens, without_aggregate}
use Rattle.zt_protocol.specs.Plain.{PlainCall, NewSession, NewTransport, DeclareToken, UndeclareToken, Interest, InterestFinal, DeclareFinal, CloseFace, Expire, SetTrees, SetEntities}
use Rattle.zt_protocol.specs.declared.interests.InterestMode.{InterestMode}
use Rattle.zt_protocol.specs.declared.interests.InterestOptions.{InterestOptions}
use Rattle.zt_model.specs.Entities.{numbered_by, with_entities, with_numbers}
use Rattle.zt_model.specs.Hearing.{put_if}
use Rattle.zt_model.specs.Lists.{at_id, first_where}
use Rattle.zt_model.specs.Parts.{find_face, is_routed, with_face}
use Rattle.zt_model.specs.Rows.{Face, InterestRow, Rows}
use Rattle.zt_model.specs.Trees.{counted_table, table_of, with_routed, with_table, without_left_out, without_routed}

-- ---- tokens of a face

-- A declaration counts as one of a token of its face, but where it answers a pending that asked for what is there now
-- alone.
abbrev pub counts_as_declared : {K : Type 0} → Face K → Option ℕ → Bool
counts_as_declared f None = true
counts_as_declared f (Some id) = elim (at_id id f.pendings) [ None ↦ true | Some asked ↦ is_future asked.mode ]

-- the face has the token under an id, and no other under that
abbrev pub with_token : {K : Type 0} → ℕ → K → Face K → Face K
with_token id e f = record f { live = put nat_cmp id e f.live }

abbrev pub without_token : {K : Type 0} → ℕ → Face K → Face K
without_token id f = record f { live = filter (λ row. not (id == row.0)) f.live }

-- ---- interests and asks of a face

-- AGGREGATE counts for nothing where a peer asks, or where tokens are asked for
abbrev pub options_that_count : WhatAmI → InterestOptions → InterestOptions
options_that_count mode options = if whatami_eq mode Peer || has_tokens options then without_aggregate options else options

-- an interest of a face, with the options that count
abbrev pub interest_kept : {K : Type 0} → Face K → InterestMode → InterestOptions → Option K → InterestRow K
interest_kept f mode options e = record { mode = mode; options = options_that_count f.mode options; expr = e }

-- the face holds an interest that asks for what comes later
abbrev pub with_held : {K : Type 0} → ℕ → InterestRow K → Face K → Face K
with_held id interest f = record f { held = put_if (is_future interest.mode) id interest f.held }

abbrev pub without_held : {K : Type 0} → ℕ → Face K → Face K
without_held id f = record f { held = filter (λ row. not (id == row.0)) f.held }

-- an interest that asks for what is there now is a question of the face, answered nothing yet
abbrev pub with_question : {K : Type 0} → List (ℕ × ℕ) → ℕ → InterestRow K → Face K → Face K
with_question pendings id interest f =
    record f { asks = put_if (is_current interest.mode) id (record { interest = interest; pendings = pendings; answered = [] }) f.asks }

-- what was asked of a face by an id has its final
abbrev pub without_pending : {K : Type 0} → ℕ → Face K → Face K
without_pending id f = record f { pendings = filter (λ row. not (id == row.0)) f.pendings }

-- and a mutual peer's initial interest, which has the id 0
abbrev pub with_initial_final : {K : Type 0} → ℕ → Face K → Face K
with_initial_final id f = record f { initial = if id == 0 then option_map (λ _. true) f.initial else f.initial }

-- the pendings that haven't waited for the timeout
abbrev pub without_expired : {K : Type 0} → ℕ → ℕ → Face K → Face K
without_expired now timeout f = record f { pendings = filter (λ row. not (nat_le timeout (now - row.1.since))) f.pendings }

-- ---- opening and closing

-- a new face has the next number, and nothing else than what its line names
abbrev pub face_made : {K : Type 0} → Zid → WhatAmI → Region → Bound → ℕ → Option Bool → Rows K → Face K
face_made zid mode region bound first initial g =
    record { number = g.made + 1; region = region; bound = bound; mode = mode; zid = zid; next = first; live = []; told = []; held = []; locals = []; pendings = []; asks = []; initial = initial; subscribers = []; queryables = [] }

abbrev pub with_new : {K : Type 0} → Face K → Rows K → Rows K
with_new f g = record g { made = g.made + 1; faces = g.faces ++ f ∷ [] }

-- two peers that are each to the north of the other start by telling each other all: that isn't finished yet
abbrev pub initial_interest : WhatAmI → Region → Bound → Option Bool
initial_interest own region bound = if whatami_eq own Peer && (is_north region && bound_eq bound NorthBound) then Some false else None

-- a session is a client with the gateway's own zid
abbrev pub with_new_session : {K : Type 0} → ℕ → Rows K → Rows K
with_new_session first g = with_new (face_made g.zid Client Local NorthBound first None g) g

abbrev pub with_new_transport : {K : Type 0} → Zid → WhatAmI → Region → Bound → ℕ → Rows K → Rows K
with_new_transport zid mode region bound first g =
    with_new (face_made zid mode region bound first (initial_interest g.mode region bound) g) g

abbrev pub without_closed : {K : Type 0} → ℕ → Rows K → Rows K
without_closed n g = record g { faces = filter (λ f. not (n == f.number)) g.faces }

-- ---- routers

-- the router that a face means by a node id: the first that the region's table links so, and never the gateway itself
abbrev pub router_meant : {K : Type 0} → Rows K → Face K → ℕ → Option Zid
router_meant g f node =
    elim (first_where (λ link. (link.0 == f.number) && (link.1 == node)) (table_of g f.region).links) [
      | None ↦ None
      | Some link ↦ if zid_eq link.2 g.zid then None else Some link.2
    ]

module _ {K : Type 0} (cmp : K → K → Ordering) where
  -- what a call of a face changes, where the face is open
  abbrev pub by_face : ℕ → Rows K → (Face K → Rows K) → Rows K
  by_face n g change = elim (find_face n g) [ None ↦ g | Some f ↦ change f ]

  -- a declaration adds the row of its router, or that of its face where it counts as one
  abbrev pub with_source : Face K → Option Zid → K → Rows K → Rows K
  with_source f None e g = g
  with_source f (Some source) e g = with_routed cmp f.region source e g

  abbrev pub with_declared : ℕ → ℕ → K → ℕ → Option ℕ → Rows K → Face K → Rows K
  with_declared n id e node interest g f =
      if is_routed g f then with_source f (router_meant g f node) e g
      else if counts_as_declared f interest then with_face n (with_token id e) g else g

  -- an undeclaration takes the row of its id, in a router region that of its router and expression
  abbrev pub without_source : Face K → Option Zid → Option K → Rows K → Rows K
  without_source f (Some source) (Some e) g = without_routed cmp f.region source e g
  without_source f _ _ g = g

  abbrev pub without_declared : ℕ → ℕ → Option K → ℕ → Rows K → Face K → Rows K
  without_declared n id e node g f =
      if is_routed g f then without_source f (router_meant g f node) e g
      else with_face n (without_token id) g

  -- an interest numbers the expression of an aggregate, is held where it asks for what comes later, and asks where
  -- it asks for what is there now
  abbrev pub with_interest : ℕ → ℕ → List (ℕ × ℕ) → InterestRow K → Rows K → Rows K
  with_interest n id pendings interest g =
      with_face n (λ f. with_question pendings id interest (with_held id interest f)) (with_numbers cmp (numbered_by cmp interest) g)

  -- The rows after an accepted call, but for what its messages change. `pendings` are the interests that an ask
  -- sends upstream, each by its face and id.
  unfoldable pub rows_shown : List (ℕ × ℕ) → PlainCall K → Rows K → Rows K
  rows_shown pendings (NewSession first) g = with_new_session first g
  rows_shown pendings (NewTransport zid whatami region bound first) g = with_new_transport zid whatami region bound first g
  rows_shown pendings (DeclareToken n id e node interest) g = by_face n g (with_declared n id e node interest g)
  rows_shown pendings (UndeclareToken n id e node) g = by_face n g (without_declared n id e node g)
  rows_shown pendings (Interest n id mode options e) g =
      by_face n g (λ f. with_interest n id pendings (interest_kept f mode options e) g)
  rows_shown pendings (InterestFinal n id) g = with_face n (without_held id) g
  rows_shown pendings (DeclareFinal n id) g = with_face n (without_pending id) (with_face n (with_initial_final id) g)
  rows_shown pendings (CloseFace n) g = without_closed n g
  rows_shown pendings (Expire now) g = record g { moment = now; faces = map (without_expired now g.timeout) g.faces }
  rows_shown pendings (SetTrees region table) g =
      with_table cmp region table (without_left_out cmp region (counted_table table) g)
  rows_shown pendings (SetEntities n subscribers queryables) g = with_entities cmp n subscribers queryables g
