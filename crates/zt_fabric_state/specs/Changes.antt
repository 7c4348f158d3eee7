-- What changes a fabric: a message is taken, a call is carried out at its gateway; and what undoes it.
use Rattle.std.specs.Prelude.{◌≡◌, ℕ, Bool, ◌==◌, ◌-◌, if◌then◌else◌, List, ◌++◌, length, take, Option, Some, None, map}
use Rattle.std.specs.declared.cmp.Ordering.{Ordering}
use Rattle.zt_protocol.specs.Plain.{PlainCall}
use Rattle.zt_protocol.specs.declared.entries.Sent.{Sent}
use Rattle.zt_protocol.specs.declared.messages.Message.{Message}
use Rattle.zt_model.specs.Fabric.{Fabric, call_at, printed_for, said_at, sorted_by_face, with_rows}
use Rattle.zt_model.specs.Linking.{with_taken}
use Rattle.zt_model.specs.Lists.{nth, rest_of, without_id}
use Rattle.zt_model.specs.Places.{Node}
use Rattle.zt_model.specs.Rows.{Rows}
use Rattle.zt_laws.specs.Sound.{rows_after_call}
use Rattle.zt_rollback.specs.After.{Before}

-- what waits at an end of a link, where the oldest message of a face's is taken
abbrev pub taken_row : {K : Type 0} → Option ℕ → ℕ × List (Message K) → ℕ × List (Message K)
taken_row None row = row
taken_row (Some face) row = if face == row.0 then (row.0, rest_of row.1) else row

-- and messages are added behind the others
abbrev pub row_after : {K : Type 0} → Option ℕ → List (Sent K) → ℕ × List (Message K) → ℕ × List (Message K)
row_after taken ms row = let left = taken_row taken row in (left.0, left.1 ++ printed_for left.0 ms)

-- the last place goes again, with what waits there
abbrev pub without_last_place : {K : Type 0} → Fabric K → Fabric K
without_last_place s = record s { faces = take (length s.faces - 1) s.faces; waiting = without_id (length s.faces) s.waiting }

-- the last link goes again
abbrev pub without_last_link : {K : Type 0} → Fabric K → Fabric K
without_last_link s = record s { links = take (length s.links - 1) s.links }

-- a gateway keeps again what it kept before a call, where it was changed
abbrev pub undone : {K : Type 0} → Option (Before K) → ℕ → Fabric K → Fabric K
undone None n s = s
undone (Some former) n s = with_rows n (λ _. former.rows) s

abbrev pub taken_by : {K : Type 0} → Option ℕ → Fabric K → Fabric K
taken_by None s = s
taken_by (Some face) s = with_taken face s

module _ {K : Type 0} (cmp : K → K → Ordering) (matching : K → K → Bool) where
  -- a gateway keeps what a call leaves of what it kept before, where it was changed
  abbrev pub IsAfter : Option (Before K) → ℕ → Fabric K → Type 0
  IsAfter None n s = Unit {0}
  IsAfter (Some former) n s = (node : Node K) → nth n s.gateways ≡ Some node → node.rows ≡ rows_after_call cmp matching former.call former.rows

  -- what a gateway's call says, as it is printed
  abbrev pub said_sorted : ℕ → PlainCall K → Fabric K → List (Sent K)
  said_sorted n c s = sorted_by_face (said_at cmp matching s (call_at s n c))

  -- the fabric after a gateway's call, where what it says waits for the other ends
  abbrev pub carried : Option ℕ → ℕ → PlainCall K → Fabric K → Fabric K
  carried taken n c s =
      let after = with_rows n (rows_after_call cmp matching c) s in
      record after { waiting = map (row_after taken (said_sorted n c s)) s.waiting }
