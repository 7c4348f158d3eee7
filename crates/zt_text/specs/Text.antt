-- The printed text: a transcript's entries, their messages and the report.
use Rattle.std.specs.Prelude.{◌≡◌, ℕ, ◌+◌, ◌<◌, ◌^◌, List, [], ◌∷◌, ◌++◌, codes, decimal, Option, Some, None, Ok, Err}
use Rattle.std.specs.List.{AllByRecursion, flat_map}
use Rattle.zt_protocol.specs.declared.entries.Report.{Report}
use Rattle.zt_protocol.specs.declared.entries.Sent.{Sent}
use Rattle.zt_protocol.specs.declared.messages.Message.{Message}
use Rattle.zt_protocol.specs.declared.messages.Message.TheVariants.{DeclareToken, UndeclareToken, DeclareFinal, Interest, InterestFinal, DeclareSubscriber, DeclareQueryable}
use Rattle.zt_protocol.specs.Plain.{PlainEntry}
use Rattle.zt_protocol.specs.Refusal.{name_of}
use Rattle.zt_fields.specs.Spellings.{options_text, interest_mode_text, flag_text}

-- fields that stand behind another one, each behind a space
abbrev pub spaced : List (List ℕ) → List ℕ
spaced [] = []
spaced (field ∷ fields) = 32 ∷ (field ++ spaced fields)

-- a line of these fields, of which there is one at least
abbrev pub line_of : List ℕ → List (List ℕ) → List ℕ
line_of first fields = first ++ (spaced fields ++ 10 ∷ [])

-- ---- messages

-- a key, where there is one
abbrev pub key_fields : {K : Type 0} → (K → List ℕ) → Option K → List (List ℕ)
key_fields printed None = []
key_fields printed (Some key) = printed key ∷ []

abbrev pub message_fields : {K : Type 0} → (K → List ℕ) → Message K → List (List ℕ)
message_fields printed (DeclareToken id expr None node) = codes "token" ∷ decimal id ∷ decimal node ∷ printed expr ∷ []
message_fields printed (DeclareToken id expr (Some interest) node) = codes "answer" ∷ decimal interest ∷ decimal id ∷ decimal node ∷ printed expr ∷ []
message_fields printed (UndeclareToken id expr node) = codes "untoken" ∷ decimal id ∷ decimal node ∷ key_fields printed expr
message_fields printed (DeclareFinal interest) = codes "final" ∷ decimal interest ∷ []
message_fields printed (Interest id mode options expr) = codes "interest" ∷ decimal id ∷ interest_mode_text mode ∷ options_text options ∷ key_fields printed expr
message_fields printed (InterestFinal id) = codes "interest-final" ∷ decimal id ∷ []
message_fields printed (DeclareSubscriber id expr interest) = codes "subscriber" ∷ decimal interest ∷ decimal id ∷ printed expr ∷ []
message_fields printed (DeclareQueryable id expr info interest) = codes "queryable" ∷ decimal interest ∷ decimal id ∷ flag_text info.complete ∷ decimal info.distance ∷ printed expr ∷ []

-- a message's line, with the gateway and the face
abbrev pub sent_text : {K : Type 0} → (K → List ℕ) → Sent K → List ℕ
sent_text printed sent = line_of (codes ">") (decimal sent.gateway ∷ decimal sent.face ∷ message_fields printed sent.message)

-- ---- entries

abbrev pub entry_text : {K : Type 0} → (K → List ℕ) → ℕ → PlainEntry K → List ℕ
entry_text printed line (Ok sents) = line_of (decimal line) (codes "ok" ∷ []) ++ flat_map (sent_text printed) sents
entry_text printed line (Err refusal) = line_of (decimal line) (codes "refused" ∷ name_of refusal ∷ [])

abbrev pub report_text : Report → List ℕ
report_text report = line_of (codes "total") (decimal report.lines ∷ decimal report.messages ∷ decimal report.refusals ∷ [])

-- the text of entries, the first of which is that of the line of this number
unfoldable pub entries_text : {K : Type 0} → (K → List ℕ) → ℕ → List (PlainEntry K) → List ℕ
entries_text printed number [] = []
entries_text printed number (entry ∷ entries) = entry_text printed number entry ++ entries_text printed (number + 1) entries

-- the text of entries, each with the number of its line, in any order
abbrev pub numbered_text : {K : Type 0} → (K → List ℕ) → List (ℕ × PlainEntry K) → List ℕ
numbered_text printed entries = flat_map (λ x. entry_text printed x.0 x.1) entries

-- the numbers of their lines fit in 64 bits
abbrev pub NumbersFit : {K : Type 0} → List (ℕ × PlainEntry K) → Type 0
NumbersFit entries = AllByRecursion (λ x. x.0 < 2 ^ 64) entries

-- the text of a transcript: its entries, and its totals
abbrev pub transcript_text : {K : Type 0} → (K → List ℕ) → List (PlainEntry K) → Report → List ℕ
transcript_text printed entries report = entries_text printed 1 entries ++ report_text report

-- ---- growing texts

-- the new text is the old one with more behind it
pub record Begins (old new : List ℕ) : Type 0 where
  pub more : List ℕ
  pub is : new ≡ old ++ more
