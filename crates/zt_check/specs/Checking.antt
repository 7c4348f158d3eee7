-- What a check reads, writes and answers.
use Rattle.std.specs.Prelude.{◌⊎◌, ℕ, Bool, ◌<◌, ◌≤◌, List, length, Option, Result, Ok, Err}
use Rattle.std.specs.declared.cmp.Ordering.{Ordering}
use Rattle.std.specs.Io.KnownBytes.{Appends, Consumes, IsAtEnd}
use Rattle.zt_keys.specs.declared.error.KeyError.{KeyError}
use Rattle.zt_streams.specs.Streams.{AppendsPart}
use Rattle.zt_check.specs.Judging.{JudgesInput}
use Rattle.zt_check.specs.Verdicts.{verdict_text}
use Rattle.zt_check.specs.declared.verdict.CheckError.{CheckError}
use Rattle.zt_check.specs.declared.verdict.CheckError.TheVariants as errors
use Rattle.zt_check.specs.declared.verdict.Verdict.{Verdict}
use Rattle.zt_check.specs.declared.verdict.Verdict.TheVariants.{Holds, Breaks}

-- the most bytes of an input
abbrev pub most_input_bytes : ℕ
most_input_bytes = 16777216

-- The source was read to its end, and this is what was read.
pub record IsWholeInput (left left' : Option (List ℕ)) (input : List ℕ) : Type 0 where
  pub taken : Consumes left left' input
  pub at_end : IsAtEnd left'
  pub fits : length input ≤ most_input_bytes

-- More was read than an input may have.
pub record IsLongInput (left left' : Option (List ℕ)) : Type 0 where
  pub input : List ℕ
  pub taken : Consumes left left' input
  pub is_long : most_input_bytes < length input

module _ {K : Type 0} (cmp : K → K → Ordering) (matching : K → K → Bool) (reading : List ℕ → Result K KeyError) (printed : K → List ℕ) where
  -- the source was read to its end, and of what was read this is said
  abbrev pub ReadsAndJudges : Option (List ℕ) → Option (List ℕ) → Result Verdict CheckError → Type 0
  ReadsAndJudges left left' answer = (input : List ℕ) × IsWholeInput left left' input × JudgesInput cmp matching reading printed input answer

  -- What each answer of a check says, by the bytes that the source has left and those that the sink was given, where
  -- they tell them.
  abbrev pub Answers : Option (List ℕ) → Option (List ℕ) → Option (List ℕ) → Option (List ℕ) → Result Verdict CheckError → Type 0
  Answers left left' written written' (Ok verdict) = ReadsAndJudges left left' (Ok verdict) × Appends written written' (verdict_text verdict)
  Answers left left' written written' (Err errors.WriteFault) =
      (verdict : Verdict) × ReadsAndJudges left left' (Ok verdict) × AppendsPart written written' (verdict_text verdict)
  Answers left left' written written' (Err errors.TooLong) = IsLongInput left left' ⊎ ReadsAndJudges left left' (Err errors.TooLong)
  Answers left left' written written' (Err errors.NoTrace) = ReadsAndJudges left left' (Err errors.NoTrace)
  Answers left left' written written' (Err (errors.BadScript number)) = ReadsAndJudges left left' (Err (errors.BadScript number))
  Answers left left' written written' (Err errors.ReadFault) = Unit {0}
  Answers left left' written written' (Err errors.Alloc) = Unit {0}

-- the status that a program ends with after a check
abbrev pub status_of : Result Verdict CheckError → ℕ
status_of (Ok (Holds report)) = 0
status_of (Ok (Breaks line failed)) = 1
status_of (Err (errors.BadScript number)) = 2
status_of (Err errors.TooLong) = 3
status_of (Err errors.NoTrace) = 4
status_of (Err errors.ReadFault) = 5
status_of (Err errors.WriteFault) = 6
status_of (Err errors.Alloc) = 7
