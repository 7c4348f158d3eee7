-- What a run of a script by many workers with a monitor beside them reads, writes and answers.
use Rattle.std.specs.Prelude.{◌≡◌, ℕ, ◌+◌, Bool, true, false, not, List, ◌++◌, map, filter, Option, Result, Ok, Err}
use Rattle.std.specs.declared.cmp.Ordering.{Ordering}
use Rattle.std.specs.Io.KnownBytes.{Appends, Consumes, IsAtEnd}
use Rattle.zt_keys.specs.declared.error.KeyError.{KeyError}
use Rattle.zt_streams.specs.Lines.{lines_of}
use Rattle.zt_streams.specs.Streams.{AppendsPart, HasRisen}
use Rattle.zt_protocol.specs.Plain.{PlainCall, PlainEntry, PlainLine}
use Rattle.zt_protocol.specs.declared.entries.Report.{Report}
use Rattle.zt_protocol.specs.declared.errors.RunError.{RunError}
use Rattle.zt_protocol.specs.declared.errors.RunError.TheVariants as errors
use Rattle.zt_text.specs.Sent.{ArePrinted}
use Rattle.zt_text.specs.Text.{NumbersFit}
use Rattle.zt_model.specs.Fabric.{empty_fabric}
use Rattle.zt_model.specs.Journal.{Journalled, is_driven, is_speaking}
use Rattle.zt_model.specs.Promises.{MeetsPromises, MeetsStricterPromises, turns_from}
use Rattle.zt_model.specs.Rows.{Rows}
use Rattle.zt_model.specs.Transcript.{Each, IsFaithfulFrom, IsStrictFrom}
use Rattle.zt_laws.specs.Sound.{HasFirstIds}
use Rattle.zt_theorem_exact_messages.specs.Exact.{PrintsExactly}
use Rattle.zt_theorem_message_ids.specs.Anew.{TellsWhatIsNew}
use Rattle.zt_theorem_transcript.specs.Named.{HasNamedOptions}
use Rattle.zt_theorem_tree_invariant.specs.Trees.{KeepPromisesOfTrees}
use Rattle.zt_theorem_journal.specs.Alone.{IsAlone}
use Rattle.zt_theorem_journal.specs.Dealt.{numbered_from}
use Rattle.zt_theorem_watch.specs.Tables.{PlainPoll}
use Rattle.zt_theorem_watch.specs.Watched.{AreWatched, fabric_of, makes_gateway}
use Rattle.zt_dealing.specs.Dealing.{IsMadeByPasses, with_lines}
use Rattle.zt_watchers.specs.Beside.{dealt_beside}
use Rattle.zt_watchers.specs.Text.{polls_text}
use Rattle.zt_plans.specs.Plans.{AreRead}
use Rattle.zt_fabric.specs.Transcripts.{Streams}
use Rattle.zt_workers.specs.Answers.{FoundABadLine, FoundTooMuch, IsDriven, calls_in, totals_of, transcript_text}

-- the text of a transcript, and behind it that of the polls
abbrev pub watched_text : {K : Type 0} → (K → List ℕ) → List (ℕ × PlainEntry K) → List (PlainPoll K) → List ℕ
watched_text printed answers polls = transcript_text printed answers ++ polls_text printed polls

module _ {K : Type 0} (cmp : K → K → Ordering) (matching : K → K → Bool) where
  -- Workers, so many, carried out the lines that speak for a face or close one, on the gateway that the other lines
  -- leave, and beside them a monitor carried out its own. The answers of these stand behind those of the others, and are
  -- the entries of a journal: the worker of its face made each of the script's, and no other did, and one more pass the
  -- monitor's, which have the number 0. Each made its entries in the order of their lines.
  pub record AreMadeBeside (workers : ℕ) (script : List (PlainLine K)) (answers : List (ℕ × PlainEntry K)) : Type 0 where
    pub rows : Rows K
    pub starts : IsAlone cmp matching rows (fabric_of cmp matching (filter (λ line. not (is_speaking line)) script) empty_fabric)
    pub journal : List (Journalled K)
    pub lines : List ℕ
    pub monitor : List (PlainCall K)
    pub made : IsMadeByPasses cmp matching (workers + 1) (dealt_beside workers (calls_in (numbered_from 1 script)) monitor) rows journal lines
    pub before : List (ℕ × PlainEntry K)
    pub answers_are : answers ≡ before ++ with_lines lines (map (λ entry. entry.outcome) journal)

  -- The answers are what the machine comes to on lines in an order in which those of the script are reordered and a
  -- monitor's stand between them; where the gateway is made they are made by workers beside the monitor; the polls are
  -- the monitor's; and the lines have first ids of at least 1 and named options alone.
  pub record CarriesOut (workers : ℕ) (script : List (PlainLine K)) (count : ℕ) (expr : Option K) (answers : List (ℕ × PlainEntry K)) (polls : List (PlainPoll K)) : Type 0 where
    pub watched : AreWatched cmp matching script count expr answers polls
    pub by_workers : makes_gateway cmp matching script ≡ true → AreMadeBeside workers script answers
    pub first_ids : Each HasFirstIds (map (λ x. x.1) watched.order)
    pub named_options : Each HasNamedOptions (map (λ x. x.1) watched.order)

  -- And of that order, the monitor's lines among them, they are a transcript: each is refused exactly by its cause,
  -- after each every face keeps what it should, and each turn, a line with its entry, keeps all promises, those that
  -- are kept beside them too, and those of trees; and no face is told a token that it keeps already, but in answer to
  -- an ask. Undeclarations by expression, subscribers, queryables and node ids are printed exactly. Where the gateway is
  -- made, workers have carried out what speaks, and a monitor its lines beside them.
  pub record AreTranscript (workers : ℕ) (script : List (PlainLine K)) (count : ℕ) (expr : Option K) (answers : List (ℕ × PlainEntry K)) (polls : List (PlainPoll K)) : Type 0 where
    pub watched : AreWatched cmp matching script count expr answers polls
    pub by_workers : makes_gateway cmp matching script ≡ true → AreMadeBeside workers script answers
    pub are_faithful : IsFaithfulFrom cmp matching (map (λ x. x.1) watched.order) (map (λ x. x.1) answers) empty_fabric
    pub are_strict : IsStrictFrom cmp matching (map (λ x. x.1) watched.order) (map (λ x. x.1) answers) empty_fabric
    pub keep_promises : Each (MeetsPromises cmp matching) (turns_from cmp matching (map (λ x. x.1) watched.order) (map (λ x. x.1) answers) empty_fabric)
    pub keep_stricter_promises : Each (MeetsStricterPromises cmp matching) (turns_from cmp matching (map (λ x. x.1) watched.order) (map (λ x. x.1) answers) empty_fabric)
    pub tell_what_is_new : Each (TellsWhatIsNew cmp matching) (turns_from cmp matching (map (λ x. x.1) watched.order) (map (λ x. x.1) answers) empty_fabric)
    pub print_exactly : Each (PrintsExactly cmp matching) (turns_from cmp matching (map (λ x. x.1) watched.order) (map (λ x. x.1) answers) empty_fabric)
    pub keep_tree_promises : KeepPromisesOfTrees cmp matching (turns_from cmp matching (map (λ x. x.1) watched.order) (map (λ x. x.1) answers) empty_fabric)

module _ {K : Type 0} (cmp : K → K → Ordering) (matching : K → K → Bool) (reading : List ℕ → Result K KeyError) (printed : K → List ℕ) where
  module _ (workers count : ℕ) (expr : Option K) where
    -- The bytes are all of a script, the text is that of its transcript and of the polls, and the report has the totals.
    -- The numbers of its lines and entries are within their types and their options have letters, so that each has a
    -- printed form.
    pub record Transcribes (bytes : List ℕ) (longer : Bool) (text : List ℕ) (report : Report) : Type 0 where
      pub whole : longer ≡ false
      pub lines : List (PlainLine K)
      pub are_read : AreRead reading (lines_of bytes) lines
      pub driven : is_driven lines ≡ true
      pub answers : List (ℕ × PlainEntry K)
      pub polls : List (PlainPoll K)
      pub transcript : AreTranscript cmp matching workers lines count expr answers polls
      pub are_printed : ArePrinted (map (λ x. x.1) answers)
      pub numbers_fit : NumbersFit answers
      pub text_is : text ≡ watched_text printed answers polls
      pub totals : report ≡ totals_of answers

    -- The source was read to its end, and these are the answers of its lines, each with a printed form, and the
    -- monitor's polls.
    pub record IsCarriedOut (old new : Streams) (answers : List (ℕ × PlainEntry K)) (polls : List (PlainPoll K)) : Type 0 where
      pub read : List ℕ
      pub taken : Consumes old.left new.left read
      pub at_end : IsAtEnd new.left
      pub script : IsDriven reading read
      pub transcript : AreTranscript cmp matching workers script.lines count expr answers polls
      pub are_printed : ArePrinted (map (λ x. x.1) answers)
      pub numbers_fit : NumbersFit answers

    -- Exactly the transcript of all lines was written, with its totals, which are the answer, and the polls.
    pub record WatchedToItsEnd (old new : Streams) (report : Report) : Type 0 where
      pub answers : List (ℕ × PlainEntry K)
      pub polls : List (PlainPoll K)
      pub carried : IsCarriedOut old new answers polls
      pub totals : report ≡ totals_of answers
      pub shown : Appends old.written new.written (watched_text printed answers polls)

    -- The sink failed. A front of the text of the transcript and of the polls was written, and not all.
    pub record FailedToWrite (old new : Streams) : Type 0 where
      pub risen : HasRisen old.write_faults new.write_faults
      pub answers : List (ℕ × PlainEntry K)
      pub polls : List (PlainPoll K)
      pub carried : IsCarriedOut old new answers polls
      pub part : AppendsPart old.written new.written (watched_text printed answers polls)

    -- what each answer of a run says
    abbrev pub Answers : Streams → Streams → Result Report RunError → Type 0
    Answers old new (Ok report) = WatchedToItsEnd old new report
    Answers old new (Err (errors.BadLine number)) = FoundABadLine cmp matching reading printed old new number × (new.written ≡ old.written)
    Answers old new (Err errors.TooLong) = FoundTooMuch cmp matching reading printed old new × (new.written ≡ old.written)
    Answers old new (Err errors.ReadFault) = HasRisen old.read_faults new.read_faults × (new.written ≡ old.written)
    Answers old new (Err errors.WriteFault) = FailedToWrite old new
    Answers old new (Err errors.Alloc) = new.written ≡ old.written
