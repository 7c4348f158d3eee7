-- What reads and writes do to the bytes of a stream and to its count of faults.
use Rattle.std.specs.Prelude.{◌≡◌, ◌↔◌, IsTrue, ℕ, ◌+◌, ◌-◌, ◌^◌, ◌<◌, Bool, ◌==◌, min, List, [], ◌++◌, length, take, drop, Option}
use Rattle.std.specs.List.{list_any}
use Rattle.std.specs.Io.KnownBytes.{Appends, Consumes}

-- a count of faults has risen; one that stands at its last value counts as risen
abbrev pub HasRisen : ℕ → ℕ → Type 0
HasRisen old new = new + 1 < 2 ^ 64 → old < new

-- known bytes grew by a front of these, and not by all of them
abbrev pub AppendsPart : Option (List ℕ) → Option (List ℕ) → List ℕ → Type 0
AppendsPart old new bytes = (n : ℕ) × (n < length bytes) × Appends old new (take n bytes)

-- known bytes lost a front
abbrev pub Spends : Option (List ℕ) → Option (List ℕ) → Type 0
Spends old new = (bytes : List ℕ) × Consumes old new bytes

-- known bytes lost a front, of which these are the first bytes, up to a limit; and whether it is longer
pub record TakesFront (limit : ℕ) (old new : Option (List ℕ)) (bytes : List ℕ) (longer : Bool) : Type 0 where
  pub read : List ℕ
  pub taken : Consumes old new read
  pub front : bytes ≡ take limit read
  pub longer_is : IsTrue longer ↔ (limit < length read)

-- one more, on a count that stays at its last value
abbrev pub next_count : ℕ → ℕ
next_count n = min (n + 1) (2 ^ 64 - 1)

-- whether the call of this number is one of those that are to fail
abbrev pub is_listed : List ℕ → ℕ → Bool
is_listed failing number = list_any (λ n. n == number) failing

-- a source over memory: the bytes that are left, the most that a call gives, the numbers of the calls that fail, and how many calls and faults there were
pub record Supply : Type 0 where
  pub left : List ℕ
  pub piece : ℕ
  pub failing : List ℕ
  pub calls : ℕ
  pub faults : ℕ

-- before the first call
abbrev pub new_supply : List ℕ → ℕ → List ℕ → Supply
new_supply bytes piece failing = record { left = bytes; piece = piece; failing = failing; calls = 0; faults = 0 }

-- how many bytes a call gives that has this much room
abbrev pub amount_given : Supply → ℕ → ℕ
amount_given s room = min (min s.piece room) (length s.left)

-- after a call that gave this many bytes
abbrev pub after_giving : Supply → ℕ → Supply
after_giving s n = record s { left = drop n s.left; calls = next_count s.calls }

-- after a call that failed
abbrev pub after_giving_none : Supply → Supply
after_giving_none s = record s { calls = next_count s.calls; faults = next_count s.faults }

-- a sink over memory: the bytes written, the room for them, the numbers of the calls that fail, and how many calls and faults there were
pub record Store : Type 0 where
  pub bytes : List ℕ
  pub room : ℕ
  pub failing : List ℕ
  pub calls : ℕ
  pub faults : ℕ

-- before the first call
abbrev pub new_store : ℕ → List ℕ → Store
new_store room failing = record { bytes = []; room = room; failing = failing; calls = 0; faults = 0 }

-- how many of this many bytes a call takes
abbrev pub amount_taken : Store → ℕ → ℕ
amount_taken s n = min n (s.room - length s.bytes)

-- after a call that took these bytes
abbrev pub after_taking : Store → List ℕ → Store
after_taking s taken = record s { bytes = s.bytes ++ taken; calls = next_count s.calls }

-- after a call that failed
abbrev pub after_taking_none : Store → Store
after_taking_none s = record s { calls = next_count s.calls; faults = next_count s.faults }
