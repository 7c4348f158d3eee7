-- What a judge says of an input.
use Rattle.std.specs.Prelude.{◌≡◌, ◌≢◌, ◌⊎◌, ℕ, Bool, true, false, ◌+◌, ◌<◌, ◌≤◌, List, [], ◌∷◌, ◌++◌, length, None, Result, Ok, Err}
use Rattle.std.specs.List.{AllByRecursion, list_any}
use Rattle.std.specs.declared.cmp.Ordering.{Ordering}
use Rattle.zt_keys.specs.declared.error.KeyError.{KeyError}
use Rattle.zt_streams.specs.Lines.{lines_of}
use Rattle.zt_protocol.specs.Plain.{PlainEntry, PlainLine}
use Rattle.zt_protocol.specs.declared.entries.Report.{Report}
use Rattle.zt_text.specs.Sent.{ArePrinted}
use Rattle.zt_text.specs.Text.{entries_text, report_text}
use Rattle.zt_model.specs.Fabric.{empty_fabric}
use Rattle.zt_model.specs.Promises.{Turn, turns_from}
use Rattle.zt_model.specs.Transcript.{Each, IsEntry, report_of}
use Rattle.zt_check_trace.specs.Entries.{BeginsWithEntry, FindsEntry}
use Rattle.zt_check_trace.specs.Parts.{IsCut, begins_with_mark, is_end_of_script}
use Rattle.zt_check_trace.specs.Script.{AreRead, HasBadLine}
use Rattle.zt_check.specs.Clauses.{FailsFirst, MeetsAll, every_clause}
use Rattle.zt_check.specs.declared.verdict.CheckError.{CheckError}
use Rattle.zt_check.specs.declared.verdict.CheckError.TheVariants as errors
use Rattle.zt_check.specs.declared.verdict.Clause.{Clause}
use Rattle.zt_check.specs.declared.verdict.Clause.TheVariants.{Text}
use Rattle.zt_check.specs.declared.verdict.Verdict.{Verdict}
use Rattle.zt_check.specs.declared.verdict.Verdict.TheVariants as verdict
use Rattle.zt_check.specs.declared.verdict.Verdict.TheVariants.{Holds}

-- the most bytes of a script
abbrev pub most_script_bytes : ℕ
most_script_bytes = 1048576

module _ {K : Type 0} (printed : K → List ℕ) where
  -- Entries stand at the front of a claimed text, in the printed form from line 1 on. No line of a message is behind
  -- them: it would be one of the last.
  pub record BeginsWithEntries (claimed : List ℕ) (entries : List (PlainEntry K)) (rest : List ℕ) : Type 0 where
    pub are_entries : AllByRecursion IsEntry entries
    pub are_printed : ArePrinted entries
    pub stand : claimed ≡ entries_text printed 1 entries ++ rest
    pub are_all : (entries ≡ []) ⊎ (begins_with_mark rest ≡ false)

  -- what is left behind the first entries isn't in the printed form: the next line's entry doesn't stand there, or where
  -- there is none more, the totals
  abbrev pub BreaksForm : List (PlainLine K) → List (PlainEntry K) → List ℕ → Type 0
  BreaksForm lines entries rest =
      ((length entries < length lines) × FindsEntry printed (length entries + 1) rest None)
      ⊎ ((length entries ≡ length lines) × (rest ≢ report_text (report_of entries)))

-- Of which clauses a verdict speaks, in their order, is said by `asked`.
module _ {K : Type 0} (cmp : K → K → Ordering) (matching : K → K → Bool) (printed : K → List ℕ) (asked : List Clause) where
  -- the turns that these entries of the lines make
  abbrev pub turns_of : List (PlainLine K) → List (PlainEntry K) → List (Turn K)
  turns_of lines entries = turns_from cmp matching lines entries empty_fabric

  -- Entries stand at the front of a claimed text, and the turn of each meets the clauses.
  pub record BeginsWell (lines : List (PlainLine K)) (claimed : List ℕ) (entries : List (PlainEntry K)) (rest : List ℕ) : Type 0 where
    pub begins : BeginsWithEntries printed claimed entries rest
    pub met : Each (MeetsAll cmp matching asked) (turns_of lines entries)

  -- The claimed text has an entry for each line, the turn of each meets the clauses, and behind them stand their totals,
  -- which are these.
  pub record IsRight (lines : List (PlainLine K)) (claimed : List ℕ) (report : Report) : Type 0 where
    pub entries : List (PlainEntry K)
    pub well : BeginsWell lines claimed entries (report_text report)
    pub is_whole : length entries ≡ length lines
    pub totals : report ≡ report_of entries

  -- The next line's entry stands behind these, and its turn fails this clause first.
  pub record FailsNext (lines : List (PlainLine K)) (entries : List (PlainEntry K)) (rest : List ℕ) (failed : Clause) : Type 0 where
    pub entry : PlainEntry K
    pub behind : List ℕ
    pub stands : BeginsWithEntry printed (length entries + 1) rest entry behind
    pub turn : Turn K
    pub is_next : turns_of lines (entries ++ entry ∷ []) ≡ turns_of lines entries ++ turn ∷ []
    pub fails : FailsFirst cmp matching asked turn failed

  -- This line is the first at which a clause fails, and there this clause is the first. Text fails where the entry isn't
  -- in the printed form, and where the totals are wrong or missing, or more follows them: then the line is one more than
  -- the last.
  pub record Breaks (lines : List (PlainLine K)) (claimed : List ℕ) (line : ℕ) (failed : Clause) : Type 0 where
    pub entries : List (PlainEntry K)
    pub rest : List ℕ
    pub well : BeginsWell lines claimed entries rest
    pub breaks : ((failed ≡ Text) × BreaksForm printed lines entries rest) ⊎ FailsNext lines entries rest failed
    pub is_line : line ≡ length entries + 1

  -- what a verdict says of the text that is claimed for these lines
  abbrev pub Judges : List (PlainLine K) → List ℕ → Verdict → Type 0
  Judges lines claimed (Holds report) = IsRight lines claimed report
  Judges lines claimed (verdict.Breaks line failed) = Breaks lines claimed line failed

-- what is said where all entries were read, by their totals
abbrev pub JudgesTotals : Report → List ℕ → Verdict → Type 0
JudgesTotals report rest (Holds totals) = (totals ≡ report) × (rest ≡ report_text report)
JudgesTotals report rest (verdict.Breaks line failed) = (line ≡ report.lines + 1) × (failed ≡ Text) × (rest ≢ report_text report)

module _ {K : Type 0} (cmp : K → K → Ordering) (matching : K → K → Bool) (reading : List ℕ → Result K KeyError) (printed : K → List ℕ) where
  -- The input is a script of at most 2^20 bytes, each line of which is one of the grammar, a line `---` and a claimed
  -- text, of which the verdict says this.
  pub record IsJudged (input : List ℕ) (verdict : Verdict) : Type 0 where
    pub script : List ℕ
    pub claimed : List ℕ
    pub is_cut : IsCut input script claimed
    pub fits : length script ≤ most_script_bytes
    pub lines : List (PlainLine K)
    pub are_read : AreRead reading (lines_of script) lines
    pub is_right : Judges cmp matching printed every_clause lines claimed verdict

  -- The script has too many bytes.
  pub record HasLongScript (input : List ℕ) : Type 0 where
    pub script : List ℕ
    pub claimed : List ℕ
    pub is_cut : IsCut input script claimed
    pub is_long : most_script_bytes < length script

  -- The script's line of this number is its first that isn't in the grammar.
  pub record HasBadScript (input : List ℕ) (number : ℕ) : Type 0 where
    pub script : List ℕ
    pub claimed : List ℕ
    pub is_cut : IsCut input script claimed
    pub fits : length script ≤ most_script_bytes
    pub is_bad : HasBadLine reading (lines_of script) number

  -- what an answer says of an input
  abbrev pub JudgesInput : List ℕ → Result Verdict CheckError → Type 0
  JudgesInput input (Ok verdict) = IsJudged input verdict
  JudgesInput input (Err errors.TooLong) = HasLongScript input
  JudgesInput input (Err errors.NoTrace) = list_any is_end_of_script (lines_of input) ≡ false
  JudgesInput input (Err (errors.BadScript number)) = HasBadScript input number
  JudgesInput input (Err errors.Alloc) = Unit {0}
  JudgesInput input (Err error) = ⊥
