-- A gateway as its callers see it, what a call makes of it, and what a call comes to that waits to be carried out.
use Rattle.std.specs.Prelude.{◌≡◌, ℕ, ◌==◌, ◌++◌, not, nat_le, nat_lt, min, if◌then◌else◌, [], ◌∷◌, Option, Some, None, Bool, filter}
use Rattle.std.specs.declared.cmp.Ordering.{Ordering}
use Rattle.zt_protocol.specs.Plain.{PlainCall, CloseFace}
use Rattle.zt_protocol.specs.declared.entries.Sent.{Sent}
use Rattle.zt_protocol.specs.declared.errors.CallError.{CallError}
use Rattle.zt_protocol.specs.declared.errors.CallError.TheVariants.{Refused, Memory}
use Rattle.zt_protocol.specs.declared.messages.Message.{Message}
use Rattle.zt_model.specs.Journal.{cause_of, made_by, rows_after}
use Rattle.zt_model.specs.Rows.{Rows}
use Rattle.zt_model.specs.Says.{Sends, said}

-- a gateway: what it keeps, and the messages that wait to be taken, each with its face's number, the oldest first
pub record Running (K : Type 0) : Type 0 where
  pub rows : Rows K
  pub waiting : Sends K

-- what a call comes to: the gateway that it was prepared on, the gateway that it leaves, its messages in the order
-- sent, and the face that it makes
pub record Planned (K : Type 0) : Type 0 where
  pub before : Running K
  pub after : Running K
  pub said : Sends K
  pub made : Option ℕ

-- ---- the order of an entry

-- a message among messages in order of face, before those of its face
abbrev pub with_send : {K : Type 0} → ℕ × Message K → Sends K → Sends K
with_send m [] = m ∷ []
with_send m (x ∷ xs) = if nat_le m.0 x.0 then m ∷ x ∷ xs else x ∷ with_send m xs

-- in order of face, and for one face in the order sent
abbrev pub by_face : {K : Type 0} → Sends K → Sends K
by_face [] = []
by_face (m ∷ ms) = with_send m (by_face ms)

-- a message of a gateway of its own, whose number is 1
abbrev pub sent_alone : {K : Type 0} → ℕ × Message K → Sent K
sent_alone m = record { gateway = 1; face = m.0; message = m.1 }

-- ---- taking what waits

-- the oldest message for a face
abbrev pub oldest_for : {K : Type 0} → ℕ → Sends K → Option (Message K)
oldest_for n [] = None
oldest_for n (s ∷ ss) = if n == s.0 then Some s.1 else oldest_for n ss

-- the messages but that one
abbrev pub without_oldest : {K : Type 0} → ℕ → Sends K → Sends K
without_oldest n [] = []
without_oldest n (s ∷ ss) = if n == s.0 then ss else s ∷ without_oldest n ss

-- the lesser of a number and one that may be there
abbrev pub least_with : ℕ → Option ℕ → Option ℕ
least_with n None = Some n
least_with n (Some m) = Some (min n m)

-- the least face above a number for which a message waits
abbrev pub next_waiting : {K : Type 0} → ℕ → Sends K → Option ℕ
next_waiting after [] = None
next_waiting after (s ∷ ss) = if nat_lt after s.0 then least_with s.0 (next_waiting after ss) else next_waiting after ss

-- ---- what a call makes of the messages that wait

-- the messages but those to a face that closes
abbrev pub without_closed : {K : Type 0} → Option ℕ → Sends K → Sends K
without_closed (Some n) ss = filter (λ s. not (n == s.0)) ss
without_closed _ ss = ss

-- the face that a call closes
abbrev pub closed_by : {K : Type 0} → PlainCall K → Option ℕ
closed_by (CloseFace n) = Some n
closed_by _ = None

module _ {K : Type 0} (cmp : K → K → Ordering) (matching : K → K → Bool) where
  -- The gateway after an accepted call: the rows that the call leaves, and its messages behind those that wait. With a
  -- face go the messages that wait for it.
  abbrev pub called : PlainCall K → Running K → Running K
  called c g = record {
    rows = rows_after cmp matching c g.rows;
    waiting = without_closed (closed_by c) g.waiting ++ said cmp matching c g.rows;
  }

  -- what an accepted call comes to
  abbrev pub planned : PlainCall K → Running K → Planned K
  planned c g = record {
    before = g;
    after = called c g;
    said = said cmp matching c g.rows;
    made = made_by cmp matching c g.rows;
  }

  -- an error of a call: memory ran out, or it is refused, by its first cause
  abbrev pub IsRefusedBy : PlainCall K → Rows K → CallError → Type 0
  IsRefusedBy c g Memory = Unit {0}
  IsRefusedBy c g (Refused r) = cause_of cmp matching c g ≡ Some r
