-- What a run of a script by many workers reads, writes and answers.
use Rattle.std.specs.Prelude.{◌≡◌, ℕ, ◌+◌, ◌<◌, ◌≤◌, Bool, true, false, not, List, [], ◌∷◌, ◌++◌, length, take, map, filter, Option, None, Some, Result, Ok, Err}
use Rattle.std.specs.declared.cmp.Ordering.{Ordering}
use Rattle.std.specs.Io.KnownBytes.{Appends, Consumes, IsAtEnd}
use Rattle.zt_keys.specs.declared.error.KeyError.{KeyError}
use Rattle.zt_streams.specs.Lines.{lines_of, whole_lines}
use Rattle.zt_streams.specs.Streams.{AppendsPart, HasRisen}
use Rattle.zt_protocol.specs.Plain.{PlainCall, PlainEntry, PlainLine, Speak, plain_entry}
use Rattle.zt_protocol.specs.declared.entries.Report.{Report}
use Rattle.zt_protocol.specs.declared.errors.RunError.{RunError}
use Rattle.zt_protocol.specs.declared.errors.RunError.TheVariants as errors
use Rattle.zt_text.specs.Sent.{ArePrinted, EntryFits}
use Rattle.zt_lines.specs.Reading.{line_read}
use Rattle.zt_text.specs.Text.{NumbersFit, numbered_text, report_text}
use Rattle.zt_model.specs.Fabric.{empty_fabric, entries_from}
use Rattle.zt_model.specs.Journal.{IsReordered, Journalled, is_driven, is_speaking}
use Rattle.zt_model.specs.Promises.{MeetsPromises, MeetsStricterPromises, turns_from}
use Rattle.zt_model.specs.Rows.{Rows}
use Rattle.zt_model.specs.Transcript.{Each, IsFaithfulFrom, IsStrictFrom, report_of}
use Rattle.zt_theorem_exact_messages.specs.Exact.{PrintsExactly}
use Rattle.zt_theorem_message_ids.specs.Anew.{TellsWhatIsNew}
use Rattle.zt_theorem_tree_invariant.specs.Trees.{KeepPromisesOfTrees}
use Rattle.zt_laws.specs.Sound.{HasFirstIds}
use Rattle.zt_theorem_transcript.specs.Named.{HasNamedOptions}
use Rattle.zt_theorem_journal.specs.Alone.{IsAlone}
use Rattle.zt_theorem_journal.specs.Dealt.{numbered_from}
use Rattle.zt_theorem_watch.specs.Watched.{fabric_of, makes_gateway}
use Rattle.zt_fabric.specs.Transcripts.{BeginsWith, CountsFaults, HasNoFault, Streams, most_bytes}
use Rattle.zt_dealing.specs.Dealing.{IsMadeByWorkers, with_lines}
use Rattle.zt_plans.specs.Plans.{AreRead, HasBadText}
use Rattle.zt_workers.specs.declared.answering.Answer.{Answer}

-- an answer: the number of a line, and what it came to
abbrev pub answered : {K : Type 0} → Answer K → ℕ × PlainEntry K
answered answer = (answer.line, plain_entry answer.entry)

-- the text of answers, in their order
abbrev pub answers_text : {K : Type 0} → (K → List ℕ) → List (ℕ × PlainEntry K) → List ℕ
answers_text printed answers = numbered_text printed answers

abbrev pub totals_of : {K : Type 0} → List (ℕ × PlainEntry K) → Report
totals_of answers = report_of (map (λ x. x.1) answers)

abbrev pub transcript_text : {K : Type 0} → (K → List ℕ) → List (ℕ × PlainEntry K) → List ℕ
transcript_text printed answers = answers_text printed answers ++ report_text (totals_of answers)

-- the numbers of their messages and of their lines are within their types
pub record AnswersFit {K : Type 0} (answers : List (ℕ × PlainEntry K)) : Type 0 where
  pub entries : Each EntryFits (map (λ x. x.1) answers)
  pub numbers : NumbersFit answers

-- the calls of those lines that speak for a face or close one, each with the number of its line
abbrev pub calls_in : {K : Type 0} → List (ℕ × PlainLine K) → List (ℕ × PlainCall K)
calls_in [] = []
calls_in (line ∷ lines) = elim line.1 [ Speak call ↦ (line.0, call) ∷ calls_in lines | _ ↦ calls_in lines ]

module _ {K : Type 0} (cmp : K → K → Ordering) (matching : K → K → Bool) where
  -- The answers are what the machine comes to on the lines of the script in another order, in which the lines that
  -- open faces stand before all others and those of one face as they stood, each with its number in the script.
  pub record AreReordered (script : List (PlainLine K)) (answers : List (ℕ × PlainEntry K)) : Type 0 where
    pub order : List (ℕ × PlainLine K)
    pub reordered : IsReordered cmp matching (numbered_from 1 script) order
    pub numbers : map (λ x. x.0) answers ≡ map (λ x. x.0) order
    pub are_the_machines : map (λ x. x.1) answers ≡ entries_from cmp matching (map (λ x. x.1) order) empty_fabric

  -- Workers, so many, carried out the lines that speak for a face or close one, on the gateway that the other lines
  -- leave. The answers of these stand behind those of the others, and are the entries of a journal: the worker of its
  -- face made each of them, and no other did, and each worker made its entries in the order of their lines.
  pub record AreMadeByWorkers (workers : ℕ) (script : List (PlainLine K)) (answers : List (ℕ × PlainEntry K)) : Type 0 where
    pub rows : Rows K
    pub starts : IsAlone cmp matching rows (fabric_of cmp matching (filter (λ line. not (is_speaking line)) script) empty_fabric)
    pub journal : List (Journalled K)
    pub lines : List ℕ
    pub made : IsMadeByWorkers cmp matching workers (calls_in (numbered_from 1 script)) rows journal lines
    pub before : List (ℕ × PlainEntry K)
    pub answers_are : answers ≡ before ++ with_lines lines (map (λ entry. entry.outcome) journal)

  -- The answers are those of the lines in another order, and where the gateway is made they are made by workers; and
  -- the lines in that order have first ids of at least 1, and named options alone.
  pub record CarriesOut (workers : ℕ) (script : List (PlainLine K)) (answers : List (ℕ × PlainEntry K)) : Type 0 where
    pub reorders : AreReordered script answers
    pub by_workers : makes_gateway cmp matching script ≡ true → AreMadeByWorkers workers script answers
    pub first_ids : Each HasFirstIds (map (λ x. x.1) reorders.order)
    pub named_options : Each HasNamedOptions (map (λ x. x.1) reorders.order)

  -- And of that order they are a transcript: each is refused exactly by its cause, after each every face keeps what it
  -- should, and each turn, a line with its entry, keeps all promises, those that are kept beside them too, and those
  -- of trees; and no face is told a token that it keeps already, but in answer to an ask. Undeclarations by expression,
  -- subscribers, queryables and node ids are printed exactly. Where the gateway is made, workers have carried out what
  -- speaks.
  pub record AreTranscript (workers : ℕ) (script : List (PlainLine K)) (answers : List (ℕ × PlainEntry K)) : Type 0 where
    pub reorders : AreReordered script answers
    pub by_workers : makes_gateway cmp matching script ≡ true → AreMadeByWorkers workers script answers
    pub are_faithful : IsFaithfulFrom cmp matching (map (λ x. x.1) reorders.order) (map (λ x. x.1) answers) empty_fabric
    pub are_strict : IsStrictFrom cmp matching (map (λ x. x.1) reorders.order) (map (λ x. x.1) answers) empty_fabric
    pub keep_promises : Each (MeetsPromises cmp matching) (turns_from cmp matching (map (λ x. x.1) reorders.order) (map (λ x. x.1) answers) empty_fabric)
    pub keep_stricter_promises : Each (MeetsStricterPromises cmp matching) (turns_from cmp matching (map (λ x. x.1) reorders.order) (map (λ x. x.1) answers) empty_fabric)
    pub tell_what_is_new : Each (TellsWhatIsNew cmp matching) (turns_from cmp matching (map (λ x. x.1) reorders.order) (map (λ x. x.1) answers) empty_fabric)
    pub print_exactly : Each (PrintsExactly cmp matching) (turns_from cmp matching (map (λ x. x.1) reorders.order) (map (λ x. x.1) answers) empty_fabric)
    pub keep_tree_promises : KeepPromisesOfTrees cmp matching (turns_from cmp matching (map (λ x. x.1) reorders.order) (map (λ x. x.1) answers) empty_fabric)

module _ {K : Type 0} (reading : List ℕ → Result K KeyError) where
  -- a script of at most 2^20 bytes, each line of which is one of the grammar and stands where it may
  pub record IsDriven (script : List ℕ) : Type 0 where
    pub fits : length script ≤ most_bytes
    pub lines : List (PlainLine K)
    pub are_read : AreRead reading (lines_of script) lines
    pub driven : is_driven lines ≡ true

  -- the source tells its bytes, they are such a script, and neither stream failed
  abbrev pub GivesDriven : Streams → Streams → Type 0
  GivesDriven old new = (script : List ℕ) × (old.left ≡ Some script) × IsDriven script × HasNoFault old new

module _ {K : Type 0} (cmp : K → K → Ordering) (matching : K → K → Bool) (reading : List ℕ → Result K KeyError) (printed : K → List ℕ) where
  -- The line of this number is the first that is no line of the grammar or has no place where it stands. Nothing was
  -- written.
  pub record FoundABadLine (old new : Streams) (number : ℕ) : Type 0 where
    pub read : List ℕ
    pub taken : Consumes old.left new.left read
    pub texts : List (List ℕ)
    pub first : BeginsWith new.left read texts
    pub bad : HasBadText reading texts number

  -- More than 2^20 bytes were read. Each line whose feed is among the first 2^20 is one of the grammar and stands where
  -- it may. Nothing was written.
  pub record FoundTooMuch (old new : Streams) : Type 0 where
    pub read : List ℕ
    pub taken : Consumes old.left new.left read
    pub longer : most_bytes < length read
    pub lines : List (PlainLine K)
    pub are_read : AreRead reading (whole_lines (take most_bytes read)) lines
    pub driven : is_driven lines ≡ true

  -- carried out by so many workers
  module _ (workers : ℕ) where
    -- The bytes are all of a script, the text is that of its transcript, and the report has its totals. The numbers of
    -- its lines and entries are within their types and their options have letters, so that no other answers have their
    -- text.
    pub record Transcribes (bytes : List ℕ) (longer : Bool) (text : List ℕ) (report : Report) : Type 0 where
      pub whole : longer ≡ false
      pub lines : List (PlainLine K)
      pub are_read : AreRead reading (lines_of bytes) lines
      pub driven : is_driven lines ≡ true
      pub answers : List (ℕ × PlainEntry K)
      pub transcript : AreTranscript cmp matching workers lines answers
      pub are_printed : ArePrinted (map (λ x. x.1) answers)
      pub numbers_fit : NumbersFit answers
      pub text_is : text ≡ transcript_text printed answers
      pub totals : report ≡ totals_of answers

    -- The source was read to its end, and these are the answers of its lines, of which no others have the text.
    pub record IsCarriedOut (old new : Streams) (answers : List (ℕ × PlainEntry K)) : Type 0 where
      pub read : List ℕ
      pub taken : Consumes old.left new.left read
      pub at_end : IsAtEnd new.left
      pub script : IsDriven reading read
      pub transcript : AreTranscript cmp matching workers script.lines answers
      pub are_printed : ArePrinted (map (λ x. x.1) answers)
      pub numbers_fit : NumbersFit answers

    -- Exactly the transcript of all lines was written, with its totals, which are the answer.
    pub record DroveToItsEnd (old new : Streams) (report : Report) : Type 0 where
      pub answers : List (ℕ × PlainEntry K)
      pub carried : IsCarriedOut old new answers
      pub totals : report ≡ totals_of answers
      pub shown : Appends old.written new.written (transcript_text printed answers)

    -- The sink failed. A front of the text of the transcript was written, and not all.
    pub record FailedToWrite (old new : Streams) : Type 0 where
      pub risen : HasRisen old.write_faults new.write_faults
      pub answers : List (ℕ × PlainEntry K)
      pub carried : IsCarriedOut old new answers
      pub part : AppendsPart old.written new.written (transcript_text printed answers)

    -- what each answer of a run says
    abbrev pub Answers : Streams → Streams → Result Report RunError → Type 0
    Answers old new (Ok report) = DroveToItsEnd old new report
    Answers old new (Err (errors.BadLine number)) = FoundABadLine old new number × (new.written ≡ old.written)
    Answers old new (Err errors.TooLong) = FoundTooMuch old new × (new.written ≡ old.written)
    Answers old new (Err errors.ReadFault) = HasRisen old.read_faults new.read_faults × (new.written ≡ old.written)
    Answers old new (Err errors.WriteFault) = FailedToWrite old new
    Answers old new (Err errors.Alloc) = new.written ≡ old.written
