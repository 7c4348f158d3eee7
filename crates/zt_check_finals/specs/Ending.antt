-- What a line may end of what asks wait for. It is read off the fabric before the line.
use Rattle.std.specs.Prelude.{ℕ, Bool, true, false, ◌==◌, ◌&&◌, not, if◌then◌else◌, List, [], ◌∷◌, ◌++◌, Option, None, Some, is_some}
use Rattle.zt_protocol.specs.Plain.{PlainCall, PlainLine, Interest, InterestFinal, DeclareFinal, CloseFace, Expire, Unlink}
use Rattle.zt_protocol.specs.declared.entries.Sent.{Sent}
use Rattle.zt_protocol.specs.declared.messages.Message.{Message}
use Rattle.zt_protocol.specs.declared.messages.Message.TheVariants as message
use Rattle.zt_model.specs.Fabric.{CallAt, Fabric, Link, Place, closing_call}
use Rattle.zt_model.specs.Lists.{nth}
use Rattle.zt_model.specs.Parts.{find_face}
use Rattle.zt_model.specs.Promises.{is_open_face}
use Rattle.zt_check_keeping.specs.Changed.{is_sought}

-- pendings of a gateway that may end: all of them, those of a face, or the one of a face and an id
abbrev pub Ended : Type 0
Ended = ℕ × Option ℕ × Option ℕ

abbrev pub is_ended : Ended → ℕ × ℕ → Bool
is_ended e p = is_sought e.1 p.0 && is_sought e.2 p.1

abbrev pub ended_by : {K : Type 0} → ℕ → PlainCall K → List Ended
ended_by gateway (DeclareFinal n id) = (gateway, Some n, Some id) ∷ []
ended_by gateway (CloseFace n) = (gateway, Some n, None) ∷ []
ended_by gateway (Expire now) = (gateway, None, None) ∷ []
ended_by gateway _ = []

-- the ask that a call makes, or whose interest it ends, by its gateway, its face and its id
abbrev pub touched_by : {K : Type 0} → ℕ → PlainCall K → Option (ℕ × ℕ × ℕ)
touched_by gateway (Interest n id mode options e) = Some (gateway, n, id)
touched_by gateway (InterestFinal n id) = Some (gateway, n, id)
touched_by gateway _ = None

-- the interest that it ends
abbrev pub finalised_by : {K : Type 0} → ℕ → PlainCall K → Option (ℕ × ℕ × ℕ)
finalised_by gateway (InterestFinal n id) = Some (gateway, n, id)
finalised_by gateway _ = None

-- ---- of the one call of a line, where it has one

abbrev pub ended_at : {K : Type 0} → Option (CallAt K) → List Ended
ended_at None = []
ended_at (Some at) = ended_by at.gateway at.call

abbrev pub touched_at : {K : Type 0} → Option (CallAt K) → Option (ℕ × ℕ × ℕ)
touched_at None = None
touched_at (Some at) = touched_by at.gateway at.call

abbrev pub finalised_at : {K : Type 0} → Option (CallAt K) → Option (ℕ × ℕ × ℕ)
finalised_at None = None
finalised_at (Some at) = finalised_by at.gateway at.call

-- both faces of a link close
abbrev pub ended_between : {K : Type 0} → Fabric K → Option Link → List Ended
ended_between s None = []
ended_between s (Some link) = ended_at (closing_call s link.one) ++ ended_at (closing_call s link.two)

-- what a line may end, where `found` is its one call
abbrev pub ended_by_line : {K : Type 0} → PlainLine K → Option (CallAt K) → Fabric K → List Ended
ended_by_line (Unlink link) found s = ended_between s (nth link s.links)
ended_by_line line found s = ended_at found

-- ---- faces that are new

-- the gateway's face at a place is open
abbrev pub is_open_at : {K : Type 0} → Fabric K → Place → Bool
is_open_at s p = elim (nth p.gateway s.gateways) [ None ↦ false | Some node ↦ is_some (find_face p.face node.rows) ]

-- the face of a message, where this is a final of the id 0 and the face isn't open
abbrev pub unopened_of : {K : Type 0} → Fabric K → ℕ → Message K → List ℕ
unopened_of s n (message.DeclareFinal id) = if (id == 0) && not (is_open_face s n) then n ∷ [] else []
unopened_of s n _ = []

abbrev pub unopened_by : {K : Type 0} → Fabric K → List (Sent K) → List ℕ
unopened_by s [] = []
unopened_by s (m ∷ ms) = unopened_of s m.face m.message ++ unopened_by s ms
