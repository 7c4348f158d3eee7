-- Links: which region a face at an end belongs to, whether a link would close a loop, and the messages that wait.
use Rattle.std.specs.Prelude.{ℕ, zero, suc, Bool, true, false, ◌+◌, ◌==◌, ◌&&◌, ◌||◌, if◌then◌else◌, List, [], ◌∷◌, ◌++◌, length, Option, Some, None, option_map, Ok, Err, map}
use Rattle.zt_region.specs.declared.region.Bound.{Bound}
use Rattle.zt_region.specs.declared.region.Region.{Region}
use Rattle.zt_region.specs.Region.{is_north}
use Rattle.zt_region.specs.South.{PlainPeer, transient_bound}
use Rattle.zt_region.specs.Tables.{RegionAnswer, region_of}
use Rattle.zt_protocol.specs.Plain.{PlainCall, NewTransport, DeclareToken, UndeclareToken, Interest, InterestFinal, DeclareFinal}
use Rattle.zt_protocol.specs.declared.messages.Message.{Message}
use Rattle.zt_protocol.specs.declared.messages.Message.TheVariants as message
use Rattle.zt_model.specs.Hat.{north_hat}
use Rattle.zt_model.specs.Lists.{at_id, first_of, first_where, is_some_and, nth, rest_of, without_id}
use Rattle.zt_model.specs.Places.{Fabric, Link, Node, Place, at_nth, number_of_place}

-- ---- the two ends

-- a gateway as the other end of a link sees it
abbrev pub peer_of : {K : Type 0} → Node K → PlainPeer
peer_of node = record { zid = node.rows.zid; whatami = node.rows.mode; links = []; region_name = node.name }

-- the region of a gateway's face to another, and that one's bound: each side knows the bound that the other by
-- itself gives it
unfoldable pub end_region : {K : Type 0} → Node K → Node K → RegionAnswer
end_region own other =
    elim (transient_bound (peer_of own) other.rows.mode other.south) [ Ok bound ↦ region_of (peer_of other) own.rows.mode own.south bound | Err e ↦ Err e ]

-- an end of a link that is to be: its gateway and the one beyond
pub record LinkEnd (K : Type 0) : Type 0 where
  pub gateway : ℕ
  pub node : Node K
  pub beyond : ℕ
  pub other : Node K
  pub first : ℕ

-- both ends, where both gateways exist
abbrev pub link_ends : {K : Type 0} → Fabric K → ℕ → ℕ → ℕ → ℕ → List (LinkEnd K)
link_ends s one two first back =
    elim (nth one s.gateways) [
      | None ↦ []
      | Some a ↦
          elim (nth two s.gateways) [
            | None ↦ []
            | Some b ↦ record { gateway = one; node = a; beyond = two; other = b; first = first } ∷ record { gateway = two; node = b; beyond = one; other = a; first = back } ∷ []
          ]
    ]

-- a test of an end's region and bound, where they are given
abbrev pub is_answer : RegionAnswer → (Region → Bound → Bool) → Bool
is_answer (Ok given) test = test given.0 given.1
is_answer (Err e) test = false

abbrev pub is_end : {K : Type 0} → (LinkEnd K → Region → Bound → Bool) → LinkEnd K → Bool
is_end test end = is_answer (end_region end.node end.other) (test end)

abbrev pub is_refused_end : {K : Type 0} → LinkEnd K → Bool
is_refused_end end = elim (end_region end.node end.other) [ Ok given ↦ false | Err e ↦ true ]

-- the call that opens the face at an end
abbrev pub end_call : {K : Type 0} → LinkEnd K → Option (PlainCall K)
end_call end =
    elim (end_region end.node end.other) [ Ok given ↦ Some (NewTransport end.other.rows.zid end.other.rows.mode given.0 given.1 end.first) | Err e ↦ None ]

-- ---- loops

abbrev pub is_end_of : ℕ → Link → Bool
is_end_of face link = face == link.one || face == link.two

-- the gateway at the other end of a face's open link
abbrev pub gateway_beyond : {K : Type 0} → Fabric K → ℕ → Option ℕ
gateway_beyond s face =
    elim (first_where (λ link. link.is_open && is_end_of face link) s.links) [
      | None ↦ None
      | Some link ↦ option_map (λ (p : Place). p.gateway) (nth (if face == link.one then link.two else link.one) s.faces)
    ]

-- the gateway above one that has one face to the north, by its link
abbrev pub gateway_above : {K : Type 0} → Fabric K → ℕ → Option ℕ
gateway_above s n =
    elim (nth n s.gateways) [
      | None ↦ None
      | Some node ↦
          if (north_hat node.rows.mode).has_one_face
          then elim (first_where (λ f. is_north f.region) node.rows.faces) [ None ↦ None | Some f ↦ gateway_beyond s (number_of_place s n f.number) ]
          else None
    ]

-- a gateway is another or lies above it, at most so many links away
unfoldable pub climbs_to : {K : Type 0} → ℕ → Fabric K → ℕ → ℕ → Bool
climbs_to zero s from to = from == to
climbs_to (suc fuel) s from to = if from == to then true else is_some_and (gateway_above s from) (λ up. climbs_to fuel s up to)

-- a new gateway above, of one that has one face to the north, is the gateway itself, or lies below it
abbrev pub closes_loop : {K : Type 0} → Fabric K → LinkEnd K → Region → Bound → Bool
closes_loop s end region bound = (north_hat end.node.rows.mode).has_one_face && (is_north region && climbs_to (length s.gateways) s end.beyond end.gateway)

-- ---- what waits

-- a direction of a link: the face whose messages it takes, and the face at the other end, which speaks them
abbrev pub sending_end : Link → Bool → ℕ
sending_end link back = if back then link.two else link.one

abbrev pub speaking_end : Link → Bool → ℕ
speaking_end link back = if back then link.one else link.two

-- the messages that wait for the other end of a face's link, oldest first
abbrev pub waiting_of : {K : Type 0} → Fabric K → ℕ → List (Message K)
waiting_of s face = elim (at_id face s.waiting) [ None ↦ [] | Some ms ↦ ms ]

abbrev pub oldest : {K : Type 0} → Fabric K → Link → Bool → Option (Message K)
oldest s link back = first_of (waiting_of s (sending_end link back))

-- the oldest message of a direction is taken
abbrev pub with_taken : {K : Type 0} → ℕ → Fabric K → Fabric K
with_taken face s = record s { waiting = map (λ row. if face == row.0 then (row.0, rest_of row.1) else row) s.waiting }

-- the call that a message is, where it is one
abbrev pub call_of_message : {K : Type 0} → ℕ → Message K → Option (PlainCall K)
call_of_message face (message.DeclareToken id e interest node) = Some (DeclareToken face id e node interest)
call_of_message face (message.UndeclareToken id e node) = Some (UndeclareToken face id e node)
call_of_message face (message.DeclareFinal interest) = Some (DeclareFinal face interest)
call_of_message face (message.Interest id mode options e) = Some (Interest face id mode options e)
call_of_message face (message.InterestFinal id) = Some (InterestFinal face id)
call_of_message face (message.DeclareSubscriber id e interest) = None
call_of_message face (message.DeclareQueryable id e info interest) = None

-- a link between the two faces that were made last
abbrev pub with_link : {K : Type 0} → Fabric K → Fabric K
with_link s =
    let one = length s.faces + 1 in
    record s { links = s.links ++ record { one = one; two = one + 1; is_open = true } ∷ []; waiting = s.waiting ++ (one, []) ∷ (one + 1, []) ∷ [] }

-- what waits on a closed link is dropped
abbrev pub without_link : {K : Type 0} → ℕ → Fabric K → Fabric K
without_link n s =
    elim (nth n s.links) [
      | None ↦ s
      | Some link ↦ record s { links = at_nth n (λ l. record l { is_open = false }) s.links; waiting = without_id link.one (without_id link.two s.waiting) }
    ]
