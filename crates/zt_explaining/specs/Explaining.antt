-- What is read, told and answered of a claimed transcript.
use Rattle.std.specs.Prelude.{◌≡◌, ℕ, Bool, List, [], ◌∷◌, Option, Result, Ok, Err}
use Rattle.std.specs.declared.cmp.Ordering.{Ordering}
use Rattle.std.specs.Io.KnownBytes.{Appends}
use Rattle.zt_keys.specs.declared.error.KeyError.{KeyError}
use Rattle.zt_streams.specs.Streams.{AppendsPart}
use Rattle.zt_check.specs.Checking.{IsWholeInput}
use Rattle.zt_check.specs.Checking.{Answers as AnswersCheck}
use Rattle.zt_check.specs.Judging.{JudgesInput}
use Rattle.zt_check.specs.declared.verdict.CheckError.{CheckError}
use Rattle.zt_check.specs.declared.verdict.CheckError.TheVariants as errors
use Rattle.zt_check.specs.declared.verdict.Clause.{Clause}
use Rattle.zt_check.specs.declared.verdict.Verdict.{Verdict}
use Rattle.zt_check.specs.declared.verdict.Verdict.TheVariants as verdict
use Rattle.zt_breaks.specs.Sentences.{breaks_text}
use Rattle.zt_breaks.specs.declared.breaks.Break.{Break}
use Rattle.zt_explaining.specs.declared.explaining.Explanation.{Explanation}

-- the first of these breaks is of this line and clause
abbrev pub BeginWith : {K : Type 0} → ℕ → Clause → List (Break K) → Type 0
BeginWith line failed [] = ⊥
BeginWith line failed (b ∷ breaks) = (b.line ≡ line) × (b.clause ≡ failed)

-- the first of these breaks is the one that a verdict names, and where it names none they are none
abbrev pub AreLed : {K : Type 0} → Verdict → List (Break K) → Type 0
AreLed (verdict.Holds report) breaks = breaks ≡ []
AreLed (verdict.Breaks line failed) breaks = BeginWith line failed breaks

-- the verdict of an explanation
abbrev pub verdict_of : {K : Type 0} → Result (Explanation K) CheckError → Result Verdict CheckError
verdict_of (Ok explanation) = Ok explanation.verdict
verdict_of (Err error) = Err error

-- the verdict that is told with a text
abbrev pub told_of : {T : Type 0} → Result (Verdict × T) CheckError → Result Verdict CheckError
told_of (Ok told) = Ok told.0
told_of (Err error) = Err error

-- the text tells breaks of which the first is the one that the verdict names
abbrev pub TellsBreaks : {K : Type 0} → (K → List ℕ) → Verdict → List ℕ → Type 0
TellsBreaks {K} printed told text = (breaks : List (Break K)) × AreLed told breaks × (text ≡ breaks_text printed breaks)

module _ {K : Type 0} (cmp : K → K → Ordering) (matching : K → K → Bool) (reading : List ℕ → Result K KeyError) (printed : K → List ℕ) where
  -- The source was read to its end, this is the verdict on what was read, and the text tells breaks of which the first is
  -- the one that it names.
  pub record Explains (left left' : Option (List ℕ)) (told : Verdict) (text : List ℕ) : Type 0 where
    pub input : List ℕ
    pub whole : IsWholeInput left left' input
    pub judged : JudgesInput cmp matching reading printed input (Ok told)
    pub tells : TellsBreaks printed told text

  -- What each answer says, by the bytes that the source has left and those that the sink was given, where they tell
  -- them. Of errors but those of the sink it says what a check does.
  abbrev pub AnswersExplaining : Option (List ℕ) → Option (List ℕ) → Option (List ℕ) → Option (List ℕ) → Result Verdict CheckError → Type 0
  AnswersExplaining left left' written written' (Ok told) =
      (text : List ℕ) × Explains left left' told text × Appends written written' text
  AnswersExplaining left left' written written' (Err errors.WriteFault) =
      (told : Verdict) × (text : List ℕ) × Explains left left' told text × AppendsPart written written' text
  AnswersExplaining left left' written written' (Err error) = AnswersCheck cmp matching reading printed left left' written written' (Err error)
