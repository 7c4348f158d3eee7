-- What a run of a script in memory gives.
use Rattle.std.specs.Prelude.{◌≡◌, ◌⊎◌, ℕ, Bool, List, [], ◌++◌, length, min, take, drop, nat_le, if◌then◌else◌, Option, Some, Result, Ok, Err}
use Rattle.std.specs.declared.cmp.Ordering.{Ordering}
use Rattle.zt_keys.specs.declared.error.KeyError.{KeyError}
use Rattle.zt_protocol.specs.declared.entries.Report.{Report}
use Rattle.zt_protocol.specs.declared.errors.RunError.{RunError}
use Rattle.zt_protocol.specs.declared.errors.RunError.TheVariants as errors
use Rattle.zt_fabric.specs.Transcripts.{Answers, CountsFaults, IsComplete, Streams, streams}

-- the status of a run whose text has room; writing in memory fails only where memory runs out
abbrev pub status_in_memory : Result Report RunError → ℕ
status_in_memory (Ok report) = 0
status_in_memory (Err (errors.BadLine number)) = 1
status_in_memory (Err errors.TooLong) = 2
status_in_memory (Err errors.ReadFault) = 3
status_in_memory (Err errors.WriteFault) = 5
status_in_memory (Err errors.Alloc) = 5

-- the status of a run whose text is longer than the room for it: that memory ran out comes first, since the text may lack its end
abbrev pub status_cut_short : Result Report RunError → ℕ
status_cut_short (Ok report) = 4
status_cut_short (Err (errors.BadLine number)) = 4
status_cut_short (Err errors.TooLong) = 4
status_cut_short (Err errors.ReadFault) = 4
status_cut_short (Err errors.WriteFault) = 5
status_cut_short (Err errors.Alloc) = 5

-- the status of a run
abbrev pub status_in_room : ℕ → ℕ → Result Report RunError → ℕ
status_in_room length room answer = if nat_le length room then status_in_memory answer else status_cut_short answer

-- before a run: the source has the whole script left, and nothing is written
abbrev pub streams_before : List ℕ → Streams
streams_before script = streams (Some script) 0 (Some []) 0

module _ {K : Type 0} (cmp : K → K → Ordering) (matching : K → K → Bool) (reading : List ℕ → Result K KeyError) (printed : K → List ℕ) where
  -- A run of the script came to this answer, and all that it wrote is this text.
  pub record Writes (script text : List ℕ) (answer : Result Report RunError) : Type 0 where
    pub left : Option (List ℕ)
    pub faults : ℕ
    pub answers : Answers cmp matching reading printed (streams_before script) (streams left 0 (Some text) faults) answer
    pub counts : CountsFaults (streams_before script) (streams left 0 (Some text) faults) answer

  -- A run of the script wrote a text. As much of it as there is room for was copied to the front of the buffer, and the
  -- rest of the buffer is as it was. The number written is the length of the whole text. The status is that of the run, or 4
  -- where nothing but the room was lacking. A complete script is carried out to its end, unless memory runs out.
  pub record RunsInMemory (script old new : List ℕ) (written status : ℕ) : Type 0 where
    pub text : List ℕ
    pub answer : Result Report RunError
    pub writes : Writes script text answer
    pub copied : ℕ
    pub copied_is : copied ≡ min (length text) (length old)
    pub buffer_is : new ≡ take copied text ++ drop copied old
    pub written_is : written ≡ length text
    pub status_is : status ≡ status_in_room (length text) (length old) answer
    pub complete : IsComplete reading script → (status ≡ 0) ⊎ ((status ≡ 4) ⊎ (status ≡ 5))
