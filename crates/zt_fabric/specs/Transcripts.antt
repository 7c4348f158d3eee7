-- What a run of a script reads, writes and answers.
use Rattle.std.specs.Prelude.{◌≡◌, ◌⊎◌, ℕ, Bool, true, false, ◌+◌, ◌<◌, ◌≤◌, List, [], ◌∷◌, ◌++◌, length, take, map, codes, Option, Some, Result, Ok, Err, is_err}
use Rattle.std.specs.Str.{bytes_eq}
use Rattle.std.specs.declared.cmp.Ordering.{Ordering}
use Rattle.std.specs.Io.KnownBytes.{Appends, Consumes, IsAtEnd}
use Rattle.zt_keys.specs.declared.error.KeyError.{KeyError}
use Rattle.zt_streams.specs.Lines.{lines_of, whole_lines}
use Rattle.zt_streams.specs.Streams.{HasRisen}
use Rattle.zt_protocol.specs.Plain.{PlainEntry, PlainLine}
use Rattle.zt_protocol.specs.declared.entries.Report.{Report}
use Rattle.zt_protocol.specs.declared.errors.RunError.{RunError}
use Rattle.zt_protocol.specs.declared.errors.RunError.TheVariants as errors
use Rattle.zt_text.specs.Sent.{ArePrinted}
use Rattle.zt_lines.specs.Reading.{line_read}
use Rattle.zt_text.specs.Text.{entries_text, report_text}
use Rattle.zt_model.specs.Fabric.{empty_fabric, entries_from}
use Rattle.zt_model.specs.Promises.{MeetsPromises, MeetsStricterPromises, turns_from}
use Rattle.zt_model.specs.Transcript.{Each, IsFaithfulFrom, IsStrictFrom, report_of}
use Rattle.zt_theorem_exact_messages.specs.Exact.{PrintsExactly}
use Rattle.zt_theorem_message_ids.specs.Anew.{TellsWhatIsNew}
use Rattle.zt_theorem_tree_invariant.specs.Trees.{KeepPromisesOfTrees}

-- the most bytes of a script
abbrev pub most_bytes : ℕ
most_bytes = 1048576

-- what the streams of a run tell: the bytes that the source has left and those that the sink was given, where
-- they tell them, and their counts of faults
pub record Streams : Type 0 where
  pub left : Option (List ℕ)
  pub read_faults : ℕ
  pub written : Option (List ℕ)
  pub write_faults : ℕ

abbrev pub streams : Option (List ℕ) → ℕ → Option (List ℕ) → ℕ → Streams
streams left read_faults written write_faults = record { left = left; read_faults = read_faults; written = written; write_faults = write_faults }

-- These are the first lines of what was read: their feeds are among its first 2^20 bytes, or the source ended
-- within those.
abbrev pub BeginsWith : Option (List ℕ) → List ℕ → List (List ℕ) → Type 0
BeginsWith left read texts =
    ((others : List (List ℕ)) × (whole_lines (take most_bytes read) ≡ texts ++ others))
    ⊎ ((others : List (List ℕ)) × IsAtEnd left × (length read ≤ most_bytes) × (lines_of read ≡ texts ++ others))

module _ {K : Type 0} (cmp : K → K → Ordering) (matching : K → K → Bool) (reading : List ℕ → Result K KeyError) where
  -- Each of these texts is a line of the grammar, and the entries are what the machine comes to on these lines.
  -- Their numbers are within their types and their options have letters, so that no other entries have their text.
  -- Each is refused exactly by its cause, and after each entry every face keeps what it should. Each message names an
  -- open face and its gateway, and too few ids are left only for a line's own call. And each turn, a line with its
  -- entry, keeps all promises, those that are kept beside them too; and no face is told a token that it keeps already,
  -- but in answer to an ask. Undeclarations by expression go to who wants and doesn't keep them, interests in subscribers
  -- and queryables get exactly those due, and node ids are those that tables give. Where open faces form trees after
  -- each line, and none is refused for want of ids, whoever asked for tokens now and later knows its tree where all links
  -- are empty, and asks get what stays in their tree, and only what was there.
  pub record IsTranscript (texts : List (List ℕ)) (entries : List (PlainEntry K)) : Type 0 where
    pub lines : List (PlainLine K)
    pub are_read : map (line_read reading) texts ≡ map (λ line. Ok line) lines
    pub are_the_machines : entries ≡ entries_from cmp matching lines empty_fabric
    pub are_printed : ArePrinted entries
    pub are_faithful : IsFaithfulFrom cmp matching lines entries empty_fabric
    pub are_strict : IsStrictFrom cmp matching lines entries empty_fabric
    pub keep_promises : Each (MeetsPromises cmp matching) (turns_from cmp matching lines entries empty_fabric)
    pub keep_stricter_promises : Each (MeetsStricterPromises cmp matching) (turns_from cmp matching lines entries empty_fabric)
    pub tell_what_is_new : Each (TellsWhatIsNew cmp matching) (turns_from cmp matching lines entries empty_fabric)
    pub print_exactly : Each (PrintsExactly cmp matching) (turns_from cmp matching lines entries empty_fabric)
    pub keep_tree_promises : KeepPromisesOfTrees cmp matching (turns_from cmp matching lines entries empty_fabric)

module _ {K : Type 0} (cmp : K → K → Ordering) (matching : K → K → Bool) (reading : List ℕ → Result K KeyError) (printed : K → List ℕ) where
  -- The source was read to its end. Exactly the transcript of all its lines was written, with its totals, which
  -- are the answer.
  pub record RanToItsEnd (old new : Streams) (report : Report) : Type 0 where
    pub read : List ℕ
    pub taken : Consumes old.left new.left read
    pub at_end : IsAtEnd new.left
    pub fits : length read ≤ most_bytes
    pub entries : List (PlainEntry K)
    pub transcript : IsTranscript cmp matching reading (lines_of read) entries
    pub totals : report ≡ report_of entries
    pub shown : Appends old.written new.written (entries_text printed 1 entries ++ report_text report)

  -- The line of this number is the first that is no line of the grammar. Exactly the transcript of the lines
  -- before it was written.
  pub record FoundABadLine (old new : Streams) (number : ℕ) : Type 0 where
    pub read : List ℕ
    pub taken : Consumes old.left new.left read
    pub bounded : length read ≤ most_bytes + 1
    pub before : List (List ℕ)
    pub bad : List ℕ
    pub first : BeginsWith new.left read (before ++ bad ∷ [])
    pub counted : number ≡ length before + 1
    pub is_bad : is_err (line_read reading bad) ≡ true
    pub entries : List (PlainEntry K)
    pub transcript : IsTranscript cmp matching reading before entries
    pub shown : Appends old.written new.written (entries_text printed 1 entries)

  -- More than 2^20 bytes were read. Each line whose feed is among the first 2^20 is one of the grammar, and exactly
  -- their transcript was written.
  pub record FoundTooMuch (old new : Streams) : Type 0 where
    pub read : List ℕ
    pub taken : Consumes old.left new.left read
    pub bounded : length read ≤ most_bytes + 1
    pub longer : most_bytes < length read
    pub entries : List (PlainEntry K)
    pub transcript : IsTranscript cmp matching reading (whole_lines (take most_bytes read)) entries
    pub shown : Appends old.written new.written (entries_text printed 1 entries)

  -- The source failed. Each line whose feed was read is one of the grammar, and exactly their transcript was
  -- written.
  pub record FailedToRead (old new : Streams) : Type 0 where
    pub risen : HasRisen old.read_faults new.read_faults
    pub read : List ℕ
    pub taken : Consumes old.left new.left read
    pub fits : length read ≤ most_bytes
    pub entries : List (PlainEntry K)
    pub transcript : IsTranscript cmp matching reading (whole_lines read) entries
    pub shown : Appends old.written new.written (entries_text printed 1 entries)

  -- the text of a transcript of the first lines of what was read; where they are all the lines of a source that
  -- ended, it may have the totals
  abbrev pub IsText : Option (List ℕ) → List ℕ → List (List ℕ) → List (PlainEntry K) → List ℕ → Type 0
  IsText left read texts entries text =
      (BeginsWith left read texts × (text ≡ entries_text printed 1 entries))
      ⊎ (IsAtEnd left × (length read ≤ most_bytes) × (lines_of read ≡ texts) × (text ≡ entries_text printed 1 entries ++ report_text (report_of entries)))

  -- The sink failed. A front of the text of a transcript was written.
  pub record FailedToWrite (old new : Streams) : Type 0 where
    pub risen : HasRisen old.write_faults new.write_faults
    pub read : List ℕ
    pub taken : Consumes old.left new.left read
    pub bounded : length read ≤ most_bytes + 1
    pub texts : List (List ℕ)
    pub entries : List (PlainEntry K)
    pub transcript : IsTranscript cmp matching reading texts entries
    pub front : List ℕ
    pub others : List ℕ
    pub is_text : IsText new.left read texts entries (front ++ others)
    pub shown : Appends old.written new.written front

  -- Memory ran out. Exactly the transcript of the first lines was written.
  pub record LackedMemory (old new : Streams) : Type 0 where
    pub read : List ℕ
    pub taken : Consumes old.left new.left read
    pub bounded : length read ≤ most_bytes + 1
    pub texts : List (List ℕ)
    pub first : BeginsWith new.left read texts
    pub entries : List (PlainEntry K)
    pub transcript : IsTranscript cmp matching reading texts entries
    pub shown : Appends old.written new.written (entries_text printed 1 entries)

  -- what each answer of a run says
  abbrev pub Answers : Streams → Streams → Result Report RunError → Type 0
  Answers old new (Ok report) = RanToItsEnd old new report
  Answers old new (Err (errors.BadLine number)) = FoundABadLine old new number
  Answers old new (Err errors.TooLong) = FoundTooMuch old new
  Answers old new (Err errors.ReadFault) = FailedToRead old new
  Answers old new (Err errors.WriteFault) = FailedToWrite old new
  Answers old new (Err errors.Alloc) = LackedMemory old new

-- The two streams' counts of faults: none falls, and each is as it was but where that stream's fault is the answer.
-- So a run stops at the first fault.
pub record CountsFaults (old new : Streams) (result : Result Report RunError) : Type 0 where
  pub source_is_calm : (result ≡ Err errors.ReadFault → ⊥) → new.read_faults ≡ old.read_faults
  pub sink_is_calm : (result ≡ Err errors.WriteFault → ⊥) → new.write_faults ≡ old.write_faults
  pub source_counts : old.read_faults ≤ new.read_faults
  pub sink_counts : old.write_faults ≤ new.write_faults

-- a script of at most 2^20 bytes, each line of which is one of the grammar
pub record IsComplete {K : Type 0} (reading : List ℕ → Result K KeyError) (script : List ℕ) : Type 0 where
  pub fits : length script ≤ most_bytes
  pub lines : List (PlainLine K)
  pub are_read : map (line_read reading) (lines_of script) ≡ map (λ line. Ok line) lines

-- no fault came between
abbrev pub HasNoFault : Streams → Streams → Type 0
HasNoFault old new = ¬ HasRisen old.read_faults new.read_faults × ¬ HasRisen old.write_faults new.write_faults

-- the source tells its bytes, they are a complete script, and neither stream failed
abbrev pub GivesComplete : {K : Type 0} → (List ℕ → Result K KeyError) → Streams → Streams → Type 0
GivesComplete reading old new = (script : List ℕ) × (old.left ≡ Some script) × IsComplete reading script × HasNoFault old new

-- the status that a program ends with after a run
abbrev pub status_of : Result Report RunError → ℕ
status_of (Ok report) = 0
status_of (Err (errors.BadLine number)) = 1
status_of (Err errors.TooLong) = 2
status_of (Err errors.ReadFault) = 3
status_of (Err errors.WriteFault) = 4
status_of (Err errors.Alloc) = 5

-- no word, or the one word `run`
abbrev pub ask_to_run : List (List ℕ) → Bool
ask_to_run [] = true
ask_to_run (word ∷ []) = bytes_eq word (codes "run")
ask_to_run (word ∷ other ∷ words) = false
