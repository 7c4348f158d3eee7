-- Messages as numbers, and the bytes of a key.
use Rattle.std.specs.Prelude.{◌≡◌, ◌⊎◌, ◌==◌, ◌≤◌, ℕ, Bool, true, false, not, nat_lt, if◌then◌else◌, List, [], ◌∷◌, Option, Some, None, option_map, option_and_then, Result}
use Rattle.zt_keys.specs.declared.error.KeyError.{KeyError}
use Rattle.zt_protocol.specs.declared.interests.InterestMode.{InterestMode}
use Rattle.zt_protocol.specs.declared.interests.InterestMode.TheVariants.{Current, Future, CurrentFuture}
use Rattle.zt_protocol.specs.declared.messages.Message.{Message}
use Rattle.zt_protocol.specs.declared.messages.Message.TheVariants.{DeclareToken, UndeclareToken, DeclareFinal, Interest, InterestFinal, DeclareSubscriber, DeclareQueryable}
use Rattle.zt_engine.specs.Keys.{key_in}
use Rattle.zt_engine.specs.declared.messages.MessageFields.{MessageFields}

-- the numbers of a message that has none
abbrev pub no_fields : MessageFields
no_fields = record { kind = 0; id = 0; interest_id = 0; node_id = 0; mode = 0; options = 0; complete = 0; distance = 0 }

abbrev pub mode_number : InterestMode → ℕ
mode_number Current = 1
mode_number Future = 2
mode_number CurrentFuture = 3

abbrev pub mode_of : ℕ → Option InterestMode
mode_of n = if n == 1 then Some Current else (if n == 2 then Some Future else (if n == 3 then Some CurrentFuture else None))

abbrev pub bit : Bool → ℕ
bit true = 1
bit false = 0

-- the numbers of a message
abbrev pub fields_of : {K : Type 0} → Message K → MessageFields
fields_of (DeclareToken id e None node) = record no_fields { kind = 1; id = id; node_id = node }
fields_of (DeclareToken id e (Some interest) node) = record no_fields { kind = 2; id = id; interest_id = interest; node_id = node }
fields_of (UndeclareToken id e node) = record no_fields { kind = 3; id = id; node_id = node }
fields_of (DeclareFinal interest) = record no_fields { kind = 4; interest_id = interest }
fields_of (Interest id mode options e) = record no_fields { kind = 5; id = id; mode = mode_number mode; options = options.0 }
fields_of (InterestFinal id) = record no_fields { kind = 6; id = id }
fields_of (DeclareSubscriber id e interest) = record no_fields { kind = 7; id = id; interest_id = interest }
fields_of (DeclareQueryable id e info interest) = record no_fields { kind = 8; id = id; interest_id = interest; complete = bit info.complete; distance = info.distance }

-- the key of a message, where it has one
abbrev pub key_of : {K : Type 0} → Message K → Option K
key_of (DeclareToken id e interest node) = Some e
key_of (UndeclareToken id e node) = e
key_of (DeclareFinal interest) = None
key_of (Interest id mode options e) = e
key_of (InterestFinal id) = None
key_of (DeclareSubscriber id e interest) = Some e
key_of (DeclareQueryable id e info interest) = Some e

-- what a message keeps in one byte or two fits
abbrev pub FitsItsBytes : {K : Type 0} → Message K → Type 0
FitsItsBytes (DeclareToken id e interest node) = node ≤ 65535
FitsItsBytes (UndeclareToken id e node) = node ≤ 65535
FitsItsBytes (Interest id mode options e) = options.0 ≤ 255
FitsItsBytes (DeclareQueryable id e info interest) = info.distance ≤ 65535
FitsItsBytes message = Unit {0}

-- ---- the message of numbers and a key

abbrev pub token_of : {K : Type 0} → MessageFields → Option ℕ → Option K → Option (Message K)
token_of f interest None = None
token_of f interest (Some e) = if nat_lt 65535 f.node_id then None else Some (DeclareToken f.id e interest f.node_id)

abbrev pub untoken_of : {K : Type 0} → MessageFields → Option K → Option (Message K)
untoken_of f e = if nat_lt 65535 f.node_id then None else Some (UndeclareToken f.id e f.node_id)

abbrev pub interest_in : {K : Type 0} → MessageFields → Option K → Option InterestMode → Option (Message K)
interest_in f e None = None
interest_in f e (Some mode) = if nat_lt 255 f.options then None else Some (Interest f.id mode (record { 0 = f.options }) e)

abbrev pub interest_of : {K : Type 0} → MessageFields → Option K → Option (Message K)
interest_of f e = interest_in f e (mode_of f.mode)

abbrev pub subscriber_of : {K : Type 0} → MessageFields → Option K → Option (Message K)
subscriber_of f None = None
subscriber_of f (Some e) = Some (DeclareSubscriber f.id e f.interest_id)

abbrev pub queryable_of : {K : Type 0} → MessageFields → Option K → Option (Message K)
queryable_of f None = None
queryable_of f (Some e) =
    if nat_lt 65535 f.distance then None else Some (DeclareQueryable f.id e (record { complete = not (f.complete == 0); distance = f.distance }) f.interest_id)

-- a message that has no key, where none is given
abbrev pub alone : {K : Type 0} → Message K → Option K → Option (Message K)
alone m None = Some m
alone m (Some e) = None

abbrev pub message_of : {K : Type 0} → MessageFields → Option K → Option (Message K)
message_of f e =
    if f.kind == 1 then token_of f None e else (
    if f.kind == 2 then token_of f (Some f.interest_id) e else (
    if f.kind == 3 then untoken_of f e else (
    if f.kind == 4 then alone (DeclareFinal f.interest_id) e else (
    if f.kind == 5 then interest_of f e else (
    if f.kind == 6 then alone (InterestFinal f.id) e else (
    if f.kind == 7 then subscriber_of f e else (
    if f.kind == 8 then queryable_of f e else None)))))))

-- ---- the message of numbers and bytes

abbrev pub is_empty : List ℕ → Bool
is_empty [] = true
is_empty (b ∷ bs) = false

-- the key that bytes spell; where there are none, there is no key
abbrev pub optional_key_in : {K : Type 0} → (List ℕ → Result K KeyError) → List ℕ → Option (Option K)
optional_key_in reading bytes = if is_empty bytes then Some None else option_map Some (key_in reading bytes)

abbrev pub message_in : {K : Type 0} → (List ℕ → Result K KeyError) → MessageFields → List ℕ → Option (Message K)
message_in reading f bytes = option_and_then (message_of f) (optional_key_in reading bytes)

-- the status of a call with bytes that no key, nor none, was read of: they spell none, or memory ran out
abbrev pub IsUnreadOptional : {K : Type 0} → (List ℕ → Result K KeyError) → List ℕ → ℕ → Type 0
IsUnreadOptional reading bytes status = ((status ≡ 9) × (optional_key_in reading bytes ≡ None)) ⊎ (status ≡ 5)

-- the status of a call with numbers and bytes that no message was read of
abbrev pub IsUnreadMessage : {K : Type 0} → (List ℕ → Result K KeyError) → MessageFields → List ℕ → ℕ → Type 0
IsUnreadMessage reading f bytes status = ((status ≡ 8) × (message_in reading f bytes ≡ None)) ⊎ IsUnreadOptional reading bytes status
