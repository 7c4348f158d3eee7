-- What calls give that take what waits: a text that goes into a buffer, or stays where it is too long.
use Rattle.std.specs.Prelude.{◌++◌, ℕ, Bool, true, nat_le, if◌then◌else◌, List, [], Option, Some, None, option_map, length, drop}
use Rattle.zt_keys.specs.Expression.{Expression}
use Rattle.zt_protocol.specs.declared.messages.Message.{Message}
use Rattle.zt_samples.specs.declared.samples.Sample.{Sample}
use Rattle.zt_samples.specs.declared.samples.Sample.TheVariants.{Put, Delete}
use Rattle.zt_liveliness.specs.Lively.{live_in}
use Rattle.zt_liveliness.specs.declared.answers.Reply.{Reply}
use Rattle.zt_liveliness.specs.declared.answers.Reply.TheVariants.{Live, Done, NotYet, NoSuchGet}
use Rattle.zt_engine.specs.Messages.{fields_of, key_of}
use Rattle.zt_engine.specs.declared.messages.MessageFields.{MessageFields}

-- a text at the front of a buffer that has room for it; one that has none is as it was
abbrev pub put_front : List ℕ → List ℕ → List ℕ
put_front text out = if nat_le (length text) (length out) then text ++ drop (length text) out else out

-- the buffer, where there may be no text
abbrev pub buffer_after : Option (List ℕ) → List ℕ → List ℕ
buffer_after None out = out
buffer_after (Some text) out = put_front text out

-- the length that is written: that of the text, also where it is too long
abbrev pub length_after : Option (List ℕ) → ℕ → ℕ
length_after None n = n
length_after (Some text) n = length text

-- the status of a text that waits or doesn't
abbrev pub waiting_status : Option (List ℕ) → List ℕ → ℕ
waiting_status None out = 15
waiting_status (Some text) out = if nat_le (length text) (length out) then 0 else 4

-- whether a text has room, where there is one
abbrev pub has_room : Option (List ℕ) → List ℕ → Bool
has_room None out = true
has_room (Some text) out = nat_le (length text) (length out)

-- ---- replies

abbrev pub reply_text : Reply Expression → Option (List ℕ)
reply_text r = option_map (λ key. key.bytes) (live_in r)

abbrev pub reply_status : Reply Expression → List ℕ → ℕ
reply_status (Live key) out = if nat_le (length key.bytes) (length out) then 0 else 4
reply_status Done out = 16
reply_status NotYet out = 15
reply_status NoSuchGet out = 13

-- ---- samples

abbrev pub sample_text : Sample Expression → List ℕ
sample_text (Put key) = key.bytes
sample_text (Delete key) = key.bytes

abbrev pub sample_kind : Sample Expression → ℕ
sample_kind (Put key) = 0
sample_kind (Delete key) = 1

abbrev pub kind_after : Option (Sample Expression) → ℕ → ℕ
kind_after None kind = kind
kind_after (Some sample) kind = sample_kind sample

-- ---- messages

-- a message's key as text, which is empty where it has none
abbrev pub text_of : Option Expression → List ℕ
text_of None = []
text_of (Some key) = key.bytes

abbrev pub sent_text : Message Expression → List ℕ
sent_text message = text_of (key_of message)

abbrev pub fields_after : Option (Message Expression) → MessageFields → MessageFields
fields_after None fields = fields
fields_after (Some message) fields = fields_of message
