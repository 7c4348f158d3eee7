-- What changes of the messages that wait for a face's other end.
use Rattle.std.specs.Prelude.{ℕ, ◌==◌, if◌then◌else◌, List, ◌++◌}
use Rattle.zt_protocol.specs.declared.entries.Sent.{Sent}
use Rattle.zt_protocol.specs.declared.messages.Message.{Message}
use Rattle.zt_model.specs.Fabric.{printed_for}
use Rattle.zt_model.specs.Lists.{rest_of}

-- the oldest is taken, where the row is the face's
abbrev pub row_taken : {K : Type 0} → ℕ → ℕ × List (Message K) → ℕ × List (Message K)
row_taken face row = if face == row.0 then (row.0, rest_of row.1) else row

-- what is printed for the row's face waits behind the others
abbrev pub row_with : {K : Type 0} → List (Sent K) → ℕ × List (Message K) → ℕ × List (Message K)
row_with ms row = (row.0, row.1 ++ printed_for row.0 ms)
