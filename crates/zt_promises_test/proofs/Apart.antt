-- What can't be: two values that a test tells apart.
use Rattle.std.proofs.Common.{◌≡◌, ℕ, Bool, true, false, ◌==◌, not, if◌then◌else◌, List, ◌∷◌, length, sum_by, Option, Some, None, sym, ap, ◌∙◌, true≢false, eq-eqb}
use Rattle.zt_protocol.specs.Plain.{PlainEntry}
use Rattle.zt_protocol.specs.Refusal.{number_of}
use Rattle.zt_protocol.specs.declared.entries.Report.{Report}
use Rattle.zt_protocol.specs.declared.errors.Refusal.{Refusal}
use Rattle.zt_protocol.specs.declared.messages.Message.{Message}
use Rattle.zt_protocol.specs.declared.messages.Message.TheVariants.{DeclareSubscriber, DeclareQueryable}
use Rattle.zt_model.specs.Transcript.{messages_in}

pub never : {b : Bool} → b ≡ true → b ≡ false → ⊥
never yes_ no_ = true≢false (sym yes_ ∙ no_)

pub differ : (a b : Bool) → a ≡ b → (if a then not b else b) ≡ true → ⊥
differ true true same_ apart = true≢false (sym apart)
differ true false same_ apart = true≢false same_
differ false true same_ apart = true≢false (sym same_)
differ false false same_ apart = true≢false (sym apart)

pub other_number : (a b : ℕ) → a ≡ b → (a == b) ≡ false → ⊥
other_number a b same_ apart = true≢false (sym (eq-eqb a b same_) ∙ apart)

pub other_list : {A : Type 0} (xs ys : List A) → xs ≡ ys → (length xs == length ys) ≡ false → ⊥
other_list xs ys same_ apart = other_number (length xs) (length ys) (ap length same_) apart

-- the number of a cause, and 0 where there is none
abbrev pub number_at : Option Refusal → ℕ
number_at None = 0
number_at (Some refusal) = number_of refusal

pub other_cause : (a b : Option Refusal) → a ≡ b → (number_at a == number_at b) ≡ false → ⊥
other_cause a b same_ apart = other_number (number_at a) (number_at b) (ap number_at same_) apart

-- the number of the first entity among messages
abbrev pub first_number : List (Message ℕ) → ℕ
first_number (DeclareSubscriber number e interest ∷ ms) = number
first_number (DeclareQueryable number e info interest ∷ ms) = number
first_number _ = 0

-- ---- of whole transcripts

-- the lines of totals, and 0 where there are none
abbrev pub lines_of : Option Report → ℕ
lines_of None = 0
lines_of (Some report) = report.lines

-- how many messages entries have
abbrev pub messages_of_all : List (PlainEntry ℕ) → ℕ
messages_of_all entries = sum_by messages_in entries
