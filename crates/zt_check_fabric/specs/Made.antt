-- The call that a line makes, as it is kept: with the number of its gateway.
use Rattle.std.specs.Prelude.{ℕ, Bool, false, if◌then◌else◌, List, [], Option, None, Some, map}
use Rattle.std.specs.List.{flat_map}
use Rattle.zt_region.specs.Region.{is_north}
use Rattle.zt_protocol.specs.Interest.{is_current}
use Rattle.zt_protocol.specs.Plain.{PlainCall, plain_call, Interest}
use Rattle.zt_protocol.specs.declared.calls.Call.{Call}
use Rattle.zt_protocol.specs.declared.entries.Sent.{Sent}
use Rattle.zt_protocol.specs.declared.messages.Message.{Message}
use Rattle.zt_protocol.specs.declared.messages.Message.TheVariants as message
use Rattle.zt_model.specs.Fabric.{CallAt, Fabric, call_at, number_of_place, printed_for}
use Rattle.zt_model.specs.Rows.{Face, Rows}
use Rattle.zt_model.specs.Transcript.{current_ids}

-- the call at the rows of its gateway
abbrev pub made_at : {K : Type 0} → Fabric K → Option (ℕ × Call K) → Option (CallAt K)
made_at s None = None
made_at s (Some made) = call_at s made.0 (plain_call made.1)

-- ids of interests that a face was sent, each with the face's number
abbrev pub with_number : ℕ → List ℕ → List (ℕ × ℕ)
with_number face ids = map (λ id. (face, id)) ids

-- a message is an interest in what is there now
abbrev pub is_current_interest : {K : Type 0} → Message K → Bool
is_current_interest (message.Interest id mode options e) = is_current mode
is_current_interest m = false

-- the pendings that these messages make for a face, by its number there and its number in scripts
abbrev pub pendings_in : {K : Type 0} → ℕ → ℕ → List (Sent K) → List (ℕ × ℕ)
pendings_in face number ms = with_number face (current_ids (printed_for number ms))

-- those for a face of a gateway, where it is to the north
abbrev pub pendings_for : {K : Type 0} → Fabric K → List (Sent K) → ℕ → Face K → List (ℕ × ℕ)
pendings_for s ms gateway f = if is_north f.region then pendings_in f.number (number_of_place s gateway f.number) ms else []

-- and for all faces of a gateway
abbrev pub pendings_at : {K : Type 0} → Fabric K → List (Sent K) → ℕ → Rows K → List (ℕ × ℕ)
pendings_at s ms gateway g = flat_map (pendings_for s ms gateway) g.faces

-- the pendings of a call's ask, and none where it asks nothing
abbrev pub pendings_of : {K : Type 0} → Fabric K → List (Sent K) → ℕ → Rows K → PlainCall K → List (ℕ × ℕ)
pendings_of s ms gateway g (Interest n id mode options e) = pendings_at s ms gateway g
pendings_of s ms gateway g _ = []
