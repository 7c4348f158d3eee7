-- The entries of a claimed transcript, read off its front one after another.
use Rattle.std.specs.Prelude.{◌≡◌, ◌≢◌, ℕ, true, false, List, [], ◌∷◌, ◌++◌, codes, decimal, Option, Some, None, Result, Ok, Err}
use Rattle.std.specs.List.{AllByRecursion, flat_map}
use Rattle.zt_protocol.specs.Plain.{PlainEntry}
use Rattle.zt_protocol.specs.Refusal.{name_of}
use Rattle.zt_protocol.specs.declared.entries.Sent.{Sent}
use Rattle.zt_protocol.specs.declared.errors.Refusal.{Refusal}
use Rattle.zt_text.specs.Sent.{IsPrinted, IsSent}
use Rattle.zt_text.specs.Text.{entry_text, sent_text, spaced}
use Rattle.zt_model.specs.Transcript.{IsEntry, StandInOrderOfFace}
use Rattle.zt_check_trace.specs.Parts.{begins_with_mark}

-- an entry's first line, without its feed: whether the line of this number is accepted, or why not
abbrev pub head_text : ℕ → Result (Unit {0}) Refusal → List ℕ
head_text number (Ok accepted) = decimal number ++ spaced (codes "ok" ∷ [])
head_text number (Err refusal) = decimal number ++ spaced (codes "refused" ∷ name_of refusal ∷ [])

-- what a first line says; None exactly where it is none of this number
abbrev pub FindsHead : ℕ → List ℕ → Option (Result (Unit {0}) Refusal) → Type 0
FindsHead number line None = (head : Result (Unit {0}) Refusal) → line ≢ head_text number head
FindsHead number line (Some head) = line ≡ head_text number head

module _ {K : Type 0} (printed : K → List ℕ) where
  -- Messages stand at the front of a text, and no line of a message behind them.
  pub record BeginsWithMessages (text : List ℕ) (sents : List (Sent K)) (rest : List ℕ) : Type 0 where
    pub are_sent : AllByRecursion IsSent sents
    pub stand : text ≡ flat_map (sent_text printed) sents ++ rest
    pub are_all : begins_with_mark rest ≡ false

  -- the messages and what is behind them; None exactly where no messages stand so
  abbrev pub FindsMessages : List ℕ → Option (List (Sent K) × List ℕ) → Type 0
  FindsMessages text None = (sents : List (Sent K)) (rest : List ℕ) → BeginsWithMessages text sents rest → ⊥
  FindsMessages text (Some found) = BeginsWithMessages text found.0 found.1

  -- the same of messages in order of face, as the entry of an accepted line
  abbrev pub FindsAccepted : List ℕ → Option (PlainEntry K × List ℕ) → Type 0
  FindsAccepted text None = (sents : List (Sent K)) (rest : List ℕ) → BeginsWithMessages text sents rest → StandInOrderOfFace sents → ⊥
  FindsAccepted text (Some found) = (sents : List (Sent K)) × (found.0 ≡ Ok sents) × BeginsWithMessages text sents found.1 × StandInOrderOfFace sents

  -- The entry of this line stands at the front of a text, in the printed form with its messages in order of face, and
  -- no line of a message behind it: that would be one of the entry's.
  pub record BeginsWithEntry (number : ℕ) (text : List ℕ) (entry : PlainEntry K) (rest : List ℕ) : Type 0 where
    pub is_entry : IsEntry entry
    pub is_printed : IsPrinted entry
    pub stands : text ≡ entry_text printed number entry ++ rest
    pub is_all : begins_with_mark rest ≡ false

  -- the entry and what is behind it; None exactly where no entry stands so
  abbrev pub FindsEntry : ℕ → List ℕ → Option (PlainEntry K × List ℕ) → Type 0
  FindsEntry number text None = (entry : PlainEntry K) (rest : List ℕ) → BeginsWithEntry number text entry rest → ⊥
  FindsEntry number text (Some found) = BeginsWithEntry number text found.0 found.1

-- the entry of a line that is refused so; None exactly where a line of a message is behind it
abbrev pub FindsRefused : {K : Type 0} → Refusal → List ℕ → Option (PlainEntry K × List ℕ) → Type 0
FindsRefused refusal text None = begins_with_mark text ≡ true
FindsRefused refusal text (Some found) = (found.0 ≡ Err refusal) × (found.1 ≡ text) × (begins_with_mark text ≡ false)
