-- What waits at the places of faces, and what is added to it and taken from it.
use Rattle.std.specs.Prelude.{ℕ, ◌+◌, ◌==◌, if◌then◌else◌, List, [], ◌∷◌, ◌++◌, Option, Some, None, option_map, map}
use Rattle.zt_protocol.specs.declared.entries.Sent.{Sent}
use Rattle.zt_protocol.specs.declared.messages.Message.{Message}
use Rattle.zt_model.specs.Fabric.{printed_for}
use Rattle.zt_model.specs.Lists.{at_id, first_of, rest_of}
use Rattle.zt_model.specs.Rows.{ById}

-- what waits at each place, where it is one that ends an open link
abbrev pub Queued : Type 0 → Type 0
Queued K = List (Option (List (Message K)))

-- the same by the numbers of the places, counted from i, and without the others
abbrev pub waiting_from : {K : Type 0} → ℕ → Queued K → ById (List (Message K))
waiting_from i [] = []
waiting_from i (None ∷ qs) = waiting_from (i + 1) qs
waiting_from i (Some ms ∷ qs) = (i, ms) ∷ waiting_from (i + 1) qs

-- the messages that are printed for a place wait there behind the others
abbrev pub grown_from : {K : Type 0} → ℕ → List (Sent K) → Queued K → Queued K
grown_from i ms [] = []
grown_from i ms (q ∷ qs) = option_map (λ waits. waits ++ printed_for i ms) q ∷ grown_from (i + 1) ms qs

-- the same of what waits by numbers
abbrev pub with_printed : {K : Type 0} → List (Sent K) → ById (List (Message K)) → ById (List (Message K))
with_printed ms rows = map (λ row. (row.0, row.1 ++ printed_for row.0 ms)) rows

-- the oldest message of a face's is taken
abbrev pub without_first : {K : Type 0} → ℕ → ById (List (Message K)) → ById (List (Message K))
without_first face rows = map (λ row. if face == row.0 then (row.0, rest_of row.1) else row) rows

-- the oldest message of a face's is taken, where one is named
abbrev pub without_taken : {K : Type 0} → Option ℕ → ById (List (Message K)) → ById (List (Message K))
without_taken None rows = rows
without_taken (Some face) rows = without_first face rows

-- the oldest message of a face's
abbrev pub first_waiting : {K : Type 0} → ℕ → ById (List (Message K)) → Option (Message K)
first_waiting face rows = first_of (elim (at_id face rows) [ None ↦ [] | Some ms ↦ ms ])
