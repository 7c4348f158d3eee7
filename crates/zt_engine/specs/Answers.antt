-- What calls answer and leave, of sessions and uplinks that are there.
use Rattle.std.specs.Prelude.{◌≡◌, ◌⊎◌, ◌+◌, ℕ, Bool, List, Option, Some, None, Result}
use Rattle.std.specs.declared.cmp.Ordering.{Ordering}
use Rattle.zt_keys.specs.declared.error.KeyError.{KeyError}
use Rattle.zt_protocol.specs.declared.messages.Message.{Message}
use Rattle.zt_liveliness.specs.Lively.{Api, Lively, OpenUplink, Receive, IsErrorOf, done_by, error_in}
use Rattle.zt_liveliness.specs.declared.errors.ApiError.{ApiError}
use Rattle.zt_engine.specs.Keys.{IsUnread, key_in}
use Rattle.zt_engine.specs.Messages.{IsUnreadMessage, message_in}
use Rattle.zt_engine.specs.Status.{status_of}
use Rattle.zt_engine.specs.declared.messages.MessageFields.{MessageFields}
use Rattle.zt_engine.specs.declared.numbers.Remote.{Remote}

module _ {K : Type 0} (cmp : K → K → Ordering) (matching : K → K → Bool) where
  -- The call was carried out: nothing refuses it.
  pub record Does (a : Api K) (before after : Lively K) (status : ℕ) : Type 0 where
    pub accepted : error_in cmp matching a before ≡ None
    pub done : after ≡ done_by cmp matching a before
    pub status_is : status ≡ 0

  -- The call failed, and changed nothing.
  pub record Fails (a : Api K) (before after : Lively K) (status : ℕ) : Type 0 where
    pub error : ApiError
    pub refused : IsErrorOf cmp matching a before error
    pub same : after ≡ before
    pub status_is : status ≡ status_of error

  -- what a call answers that gives no number
  abbrev pub Answers : Api K → Lively K → Lively K → ℕ → Type 0
  Answers a before after status = Does a before after status ⊎ Fails a before after status

  -- what a call answers that gives a number: `old` was there before, and stays where the call fails
  abbrev pub Makes : Api K → ℕ → Lively K → Lively K → ℕ → ℕ → ℕ → Type 0
  Makes a number before after old new status =
      (Does a before after status × (new ≡ number)) ⊎ (Fails a before after status × (new ≡ old))

  -- what the opening of an uplink answers, to a gateway that its numbers may name
  abbrev pub OpensUplink : Option Remote → Lively K → Lively K → ℕ → ℕ → ℕ → Type 0
  OpensUplink None before after old new status = (status ≡ 8) × (after ≡ before) × (new ≡ old)
  OpensUplink (Some remote) before after old new status =
      Makes (OpenUplink remote.node.zid remote.node.mode remote.bound) (before.rows.made + 1) before after old new status

  -- the same as `Makes` of a call that takes a key as bytes
  abbrev pub MakesOf : (List ℕ → Result K KeyError) → (K → Api K) → ℕ → List ℕ → Lively K → Lively K → ℕ → ℕ → ℕ → Type 0
  MakesOf reading call number bytes before after old new status =
      ((key : K) × (key_in reading bytes ≡ Some key) × Makes (call key) number before after old new status)
      ⊎ (IsUnread reading bytes status × (after ≡ before) × (new ≡ old))

  -- what a call answers that takes a message, as its fields and the bytes of its key
  abbrev pub Receives : (List ℕ → Result K KeyError) → ℕ → MessageFields → List ℕ → Lively K → Lively K → ℕ → Type 0
  Receives reading uplink fields bytes before after status =
      ((message : Message K) × (message_in reading fields bytes ≡ Some message) × Answers (Receive uplink message) before after status)
      ⊎ (IsUnreadMessage reading fields bytes status × (after ≡ before))
