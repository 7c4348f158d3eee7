-- The script that `make` runs, and what is written of it.
use Rattle.std.specs.Prelude.{◌≡◌, ℕ, zero, suc, ◌+◌, Bool, ◌&&◌, nat_le, if◌then◌else◌, List, [], ◌∷◌, ◌++◌, codes, decimal, Option, None, Some, Result, Ok, Err}
use Rattle.std.specs.List.{flat_map}
use Rattle.std.specs.Str.{bytes_eq}
use Rattle.std.specs.declared.cmp.Ordering.{Ordering}
use Rattle.std.specs.Io.KnownBytes.{Appends}
use Rattle.zt_keys.specs.declared.error.KeyError.{KeyError}
use Rattle.zt_streams.specs.Lines.{with_feed}
use Rattle.zt_streams.specs.Streams.{AppendsPart, HasRisen}
use Rattle.zt_protocol.specs.Plain.{PlainEntry}
use Rattle.zt_protocol.specs.declared.entries.Report.{Report}
use Rattle.zt_protocol.specs.declared.errors.RunError.{RunError}
use Rattle.zt_protocol.specs.declared.errors.RunError.TheVariants as errors
use Rattle.zt_fields.specs.Numbers.{u32_of}
use Rattle.zt_text.specs.Text.{report_text}
use Rattle.zt_model.specs.Transcript.{report_of}
use Rattle.zt_fabric.specs.Transcripts.{IsTranscript}

-- ---- the script

-- two clients south of a router, and a session of the first, which asks for all tokens
abbrev pub first_lines : List (List ℕ)
first_lines =
    codes "gateway router 1 regions=south0-client" ∷ codes "gateway client 2" ∷ codes "gateway client 3" ∷ codes "link 2 1" ∷ codes "link 3 1"
    ∷ codes "session 2" ∷ codes "interest 5 1 current-future t" ∷ codes "step 1 fwd" ∷ codes "step 1 back" ∷ []

abbrev pub declaring_line : ℕ → List ℕ
declaring_line i = codes "declare " ++ (decimal (5 + i) ++ (codes " 1 t/" ++ decimal i))

abbrev pub closing_line : ℕ → List ℕ
closing_line i = codes "close " ++ decimal (5 + i)

-- a session of the second client comes with a token, and the first is told
abbrev pub coming_lines : ℕ → List (List ℕ)
coming_lines i = codes "session 3" ∷ declaring_line i ∷ codes "step 2 fwd" ∷ codes "step 1 back" ∷ []

-- and it goes again
abbrev pub going_lines : ℕ → List (List ℕ)
going_lines i = closing_line i ∷ codes "step 2 fwd" ∷ codes "step 1 back" ∷ []

-- the lines of each number from 1 to n
abbrev pub lines_up_to : (ℕ → List (List ℕ)) → ℕ → List (List ℕ)
lines_up_to lines zero = []
lines_up_to lines (suc n) = lines_up_to lines n ++ lines (suc n)

-- so many sessions come, one after another, and then they go
abbrev pub made_lines : ℕ → List (List ℕ)
made_lines n = first_lines ++ (lines_up_to coming_lines n ++ lines_up_to going_lines n)

abbrev pub text_of : List (List ℕ) → List ℕ
text_of lines = flat_map with_feed lines

unfoldable pub made_script : ℕ → List ℕ
made_script n = text_of (made_lines n)

-- ---- the words

abbrev pub from_one_to : ℕ → Option ℕ → Option ℕ
from_one_to most None = None
from_one_to most (Some n) = if nat_le 1 n && nat_le n most then Some n else None

-- the number of the words `make N`, a decimal number from 1 to 2,000
unfoldable pub number_to_make : List (List ℕ) → Option ℕ
number_to_make [] = None
number_to_make (word ∷ []) = None
number_to_make (word ∷ number ∷ []) = if bytes_eq word (codes "make") then from_one_to 2000 (u32_of number) else None
number_to_make (word ∷ number ∷ other ∷ words) = None

-- ---- what is written

-- a text wasn't written, or where the sink failed a part of it was
abbrev pub NotWritten : List ℕ → Option (List ℕ) → Option (List ℕ) → ℕ → ℕ → RunError → Type 0
NotWritten text old new faults faults' errors.WriteFault = AppendsPart old new text × HasRisen faults faults'
NotWritten text old new faults faults' errors.Alloc = (new ≡ old) × (faults' ≡ faults)
NotWritten text old new faults faults' _ = ⊥

module _ {K : Type 0} (cmp : K → K → Ordering) (matching : K → K → Bool) (reading : List ℕ → Result K KeyError) where
  -- the report of the transcript of these texts
  pub record IsReportOf (texts : List (List ℕ)) (report : Report) : Type 0 where
    pub entries : List (PlainEntry K)
    pub transcript : IsTranscript cmp matching reading texts entries
    pub totals : report ≡ report_of entries

  -- Of their transcript the report line alone was written, or where the sink failed a part of it, and without memory
  -- nothing. No other error comes.
  abbrev pub WritesReport : List (List ℕ) → Option (List ℕ) → Option (List ℕ) → ℕ → ℕ → Result Report RunError → Type 0
  WritesReport texts old new faults faults' (Ok report) = IsReportOf texts report × Appends old new (report_text report) × (faults' ≡ faults)
  WritesReport texts old new faults faults' (Err errors.WriteFault) =
      (report : Report) × IsReportOf texts report × AppendsPart old new (report_text report) × HasRisen faults faults'
  WritesReport texts old new faults faults' (Err errors.Alloc) = (new ≡ old) × (faults' ≡ faults)
  WritesReport texts old new faults faults' (Err error) = ⊥
