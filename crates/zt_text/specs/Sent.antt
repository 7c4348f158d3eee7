-- What a printed message line is read as.
use Rattle.std.specs.Prelude.{ℕ, ◌<◌, ◌≤◌, if◌then◌else◌, List, codes, Option, Some, None, Result, Ok, Err}
use Rattle.std.specs.List.{AllByRecursion}
use Rattle.std.specs.Str.{bytes_eq, is_utf8}
use Rattle.zt_keys.specs.declared.error.KeyError.{KeyError}
use Rattle.zt_protocol.specs.declared.entries.Sent.{Sent}
use Rattle.zt_protocol.specs.declared.errors.LineError.{LineError}
use Rattle.zt_protocol.specs.declared.errors.LineError.TheVariants as errors
use Rattle.zt_protocol.specs.declared.messages.Message.{Message}
use Rattle.zt_protocol.specs.declared.messages.Message.TheVariants.{DeclareToken, UndeclareToken, DeclareFinal, Interest, InterestFinal, DeclareSubscriber, DeclareQueryable}
use Rattle.zt_protocol.specs.Plain.{PlainEntry}
use Rattle.zt_fields.specs.Numbers.{u16_of, u32_of}
use Rattle.zt_fields.specs.Fields.{◌>>=◌, spelled_by, Fields, fields_of, field_at, end_at, value_at, settled}
use Rattle.zt_fields.specs.Values.{interest_mode_of, options_of, key_read, flag_of}

-- a key that stands last
unfoldable pub last_key_at : {K : Type 0} → (List ℕ → Result K KeyError) → Fields → Result K LineError
last_key_at reading fields = do
  key ← value_at (key_read reading) fields
  end ← end_at key.1
  Ok key.0

-- the same of one that may be absent
abbrev pub last_by : {K : Type 0} → (List ℕ → Result K KeyError) → Fields → Result (Unit {0}) LineError → Result (Option K) LineError
last_by reading fields (Ok end) = Ok None
last_by reading fields (Err e) = last_key_at reading fields >>= λ key. Ok (Some key)

unfoldable pub last_optional_key_at : {K : Type 0} → (List ℕ → Result K KeyError) → Fields → Result (Option K) LineError
last_optional_key_at reading fields = last_by reading fields (end_at fields)

-- ---- messages, behind their word

unfoldable pub token_at : {K : Type 0} → (List ℕ → Result K KeyError) → Fields → Result (Message K) LineError
token_at reading fields = do
  id ← value_at (spelled_by u32_of) fields
  node ← value_at (spelled_by u16_of) id.1
  expr ← last_key_at reading node.1
  Ok (DeclareToken id.0 expr None node.0)

unfoldable pub answer_at : {K : Type 0} → (List ℕ → Result K KeyError) → Fields → Result (Message K) LineError
answer_at reading fields = do
  interest ← value_at (spelled_by u32_of) fields
  id ← value_at (spelled_by u32_of) interest.1
  node ← value_at (spelled_by u16_of) id.1
  expr ← last_key_at reading node.1
  Ok (DeclareToken id.0 expr (Some interest.0) node.0)

unfoldable pub untoken_at : {K : Type 0} → (List ℕ → Result K KeyError) → Fields → Result (Message K) LineError
untoken_at reading fields = do
  id ← value_at (spelled_by u32_of) fields
  node ← value_at (spelled_by u16_of) id.1
  expr ← last_optional_key_at reading node.1
  Ok (UndeclareToken id.0 expr node.0)

unfoldable pub final_at : {K : Type 0} → Fields → Result (Message K) LineError
final_at fields = do
  interest ← value_at (spelled_by u32_of) fields
  end ← end_at interest.1
  Ok (DeclareFinal interest.0)

unfoldable pub asked_at : {K : Type 0} → (List ℕ → Result K KeyError) → Fields → Result (Message K) LineError
asked_at reading fields = do
  id ← value_at (spelled_by u32_of) fields
  mode ← value_at (spelled_by interest_mode_of) id.1
  options ← value_at (spelled_by options_of) mode.1
  expr ← last_optional_key_at reading options.1
  Ok (Interest id.0 mode.0 options.0 expr)

unfoldable pub asked_final_at : {K : Type 0} → Fields → Result (Message K) LineError
asked_final_at fields = do
  id ← value_at (spelled_by u32_of) fields
  end ← end_at id.1
  Ok (InterestFinal id.0)

unfoldable pub subscriber_message_at : {K : Type 0} → (List ℕ → Result K KeyError) → Fields → Result (Message K) LineError
subscriber_message_at reading fields = do
  interest ← value_at (spelled_by u32_of) fields
  id ← value_at (spelled_by u32_of) interest.1
  expr ← last_key_at reading id.1
  Ok (DeclareSubscriber id.0 expr interest.0)

unfoldable pub queryable_message_at : {K : Type 0} → (List ℕ → Result K KeyError) → Fields → Result (Message K) LineError
queryable_message_at reading fields = do
  interest ← value_at (spelled_by u32_of) fields
  id ← value_at (spelled_by u32_of) interest.1
  complete ← value_at (spelled_by flag_of) id.1
  distance ← value_at (spelled_by u16_of) complete.1
  expr ← last_key_at reading distance.1
  Ok (DeclareQueryable id.0 expr (record { complete = complete.0; distance = distance.0 }) interest.0)

unfoldable pub message_by : {K : Type 0} → (List ℕ → Result K KeyError) → List ℕ → Fields → Result (Message K) LineError
message_by reading word fields =
    if bytes_eq word (codes "token") then token_at reading fields
    else if bytes_eq word (codes "answer") then answer_at reading fields
    else if bytes_eq word (codes "untoken") then untoken_at reading fields
    else if bytes_eq word (codes "final") then final_at fields
    else if bytes_eq word (codes "interest") then asked_at reading fields
    else if bytes_eq word (codes "interest-final") then asked_final_at fields
    else if bytes_eq word (codes "subscriber") then subscriber_message_at reading fields
    else if bytes_eq word (codes "queryable") then queryable_message_at reading fields
    else Err errors.NotInGrammar

-- ---- message lines

unfoldable pub sent_behind : {K : Type 0} → (List ℕ → Result K KeyError) → Fields → Result (Sent K) LineError
sent_behind reading fields = do
  gateway ← value_at (spelled_by u32_of) fields
  face ← value_at (spelled_by u32_of) gateway.1
  word ← field_at face.1
  message ← message_by reading word.0 word.1
  Ok (record { gateway = gateway.0; face = face.0; message = message })

abbrev pub sent_by : {K : Type 0} → (List ℕ → Result K KeyError) → List ℕ → Fields → Result (Sent K) LineError
sent_by reading mark fields = if bytes_eq mark (codes ">") then sent_behind reading fields else Err errors.NotInGrammar

unfoldable pub sent_at : {K : Type 0} → (List ℕ → Result K KeyError) → Fields → Result (Sent K) LineError
sent_at reading fields = do
  mark ← field_at fields
  sent_by reading mark.0 mark.1

-- what a message line is read as; never want of memory
unfoldable pub sent_read : {K : Type 0} → (List ℕ → Result K KeyError) → List ℕ → Result (Sent K) LineError
sent_read reading bytes = if is_utf8 bytes then settled (sent_at reading (fields_of bytes)) else Err errors.NotUtf8

-- ---- which messages have a printed form of their own

abbrev pub IsU32OrNone : Option ℕ → Type 0
IsU32OrNone None = Unit {0}
IsU32OrNone (Some n) = n ≤ 4294967295

-- each number is within its type
abbrev pub NumbersFit : {K : Type 0} → Message K → Type 0
NumbersFit (DeclareToken id expr interest node) = (id ≤ 4294967295) × IsU32OrNone interest × (node ≤ 65535)
NumbersFit (UndeclareToken id expr node) = (id ≤ 4294967295) × (node ≤ 65535)
NumbersFit (DeclareFinal interest) = interest ≤ 4294967295
NumbersFit (Interest id mode options expr) = id ≤ 4294967295
NumbersFit (InterestFinal id) = id ≤ 4294967295
NumbersFit (DeclareSubscriber id expr interest) = (id ≤ 4294967295) × (interest ≤ 4294967295)
NumbersFit (DeclareQueryable id expr info interest) =
    (id ≤ 4294967295) × (interest ≤ 4294967295) × (info.distance ≤ 65535)

-- so are those of a message with its gateway and its face
pub record SentFits {K : Type 0} (sent : Sent K) : Type 0 where
  pub gateway : sent.gateway ≤ 4294967295
  pub face : sent.face ≤ 4294967295
  pub message : NumbersFit sent.message

-- and those of each message of an entry
abbrev pub EntryFits : {K : Type 0} → PlainEntry K → Type 0
EntryFits (Ok sents) = AllByRecursion SentFits sents
EntryFits (Err refusal) = Unit {0}

-- numbers within their types, and no options but the five that have a letter
abbrev pub IsMessage : {K : Type 0} → Message K → Type 0
IsMessage (DeclareToken id expr interest node) = (id ≤ 4294967295) × IsU32OrNone interest × (node ≤ 65535)
IsMessage (UndeclareToken id expr node) = (id ≤ 4294967295) × (node ≤ 65535)
IsMessage (DeclareFinal interest) = interest ≤ 4294967295
IsMessage (Interest id mode options expr) = (id ≤ 4294967295) × (options.0 < 32)
IsMessage (InterestFinal id) = id ≤ 4294967295
IsMessage (DeclareSubscriber id expr interest) = (id ≤ 4294967295) × (interest ≤ 4294967295)
IsMessage (DeclareQueryable id expr info interest) = (id ≤ 4294967295) × (interest ≤ 4294967295) × (info.distance ≤ 65535)

pub record IsSent {K : Type 0} (sent : Sent K) : Type 0 where
  pub gateway : sent.gateway ≤ 4294967295
  pub face : sent.face ≤ 4294967295
  pub message : IsMessage sent.message

-- an entry each message of which is so
abbrev pub IsPrinted : {K : Type 0} → PlainEntry K → Type 0
IsPrinted (Ok sents) = AllByRecursion IsSent sents
IsPrinted (Err refusal) = Unit {0}

abbrev pub ArePrinted : {K : Type 0} → List (PlainEntry K) → Type 0
ArePrinted entries = AllByRecursion IsPrinted entries
