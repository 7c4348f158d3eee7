-- What a run in memory gives, from what a run of a source and a sink promises.
use Rattle.std.proofs.Common.{◌≡◌, ◌⊎◌, ℕ, Bool, List, ◌++◌, length, min, take, drop, Option, Some, Result, Ok, Err, IsOkUnless, inl, inr, refl, sym, subst, arith, nat_le}
use Rattle.std.specs.declared.cmp.Ordering.{Ordering}
use Rattle.zt_keys.specs.Test.{by_test}
use Rattle.zt_keys.specs.declared.error.KeyError.{KeyError}
use Rattle.zt_streams.specs.Streams.{HasRisen}
use Rattle.zt_protocol.specs.declared.entries.Report.{Report}
use Rattle.zt_protocol.specs.declared.errors.RunError.{RunError}
use Rattle.zt_protocol.specs.declared.errors.RunError.TheVariants as errors
use Rattle.zt_fabric.specs.Transcripts.{Answers, CountsFaults, GivesComplete, IsComplete, Streams, streams}
use Rattle.zt_liveliness_c.specs.Running.{RunsInMemory, status_cut_short, status_in_memory, status_in_room, streams_before}

none_has_risen : ¬ HasRisen 0 0
none_has_risen risen = omega (arith, risen (omega arith))

-- the status of a run that came to its end or lacked memory
abbrev Ended : ℕ → Type 0
Ended status = (status ≡ 0) ⊎ ((status ≡ 4) ⊎ (status ≡ 5))

ended_short : (answer : Result Report RunError) → Ended (status_cut_short answer)
ended_short (Ok report) = inr (inl refl)
ended_short (Err (errors.BadLine n)) = inr (inl refl)
ended_short (Err errors.TooLong) = inr (inl refl)
ended_short (Err errors.ReadFault) = inr (inl refl)
ended_short (Err errors.WriteFault) = inr (inr refl)
ended_short (Err errors.Alloc) = inr (inr refl)

module _ {K : Type 0} (reading : List ℕ → Result K KeyError) (script text : List ℕ) (left : Option (List ℕ)) (faults : ℕ) where
  abbrev after : Streams
  after = streams left 0 (Some text) faults

  -- where writing didn't fail, there was no fault at all
  gives : (answer : Result Report RunError) → (answer ≡ Err errors.WriteFault → ⊥) → CountsFaults (streams_before script) after answer
      → IsComplete reading script → GivesComplete reading (streams_before script) after
  gives answer calm counts is =
      let none : faults ≡ 0 = counts.sink_is_calm calm in
      (script, refl, is, (none_has_risen, subst (λ (n : ℕ). ¬ HasRisen 0 n) (sym none) none_has_risen))

  ended_in_memory : (answer : Result Report RunError) → CountsFaults (streams_before script) after answer
      → (GivesComplete reading (streams_before script) after → IsOkUnless answer errors.Alloc) → IsComplete reading script → Ended (status_in_memory answer)
  ended_in_memory (Ok report) counts complete is = inl refl
  ended_in_memory (Err (errors.BadLine n)) counts complete is =
      let no : errors.BadLine n ≡ errors.Alloc = complete (gives (Err (errors.BadLine n)) (λ e. cc) counts is) in cc
  ended_in_memory (Err errors.TooLong) counts complete is =
      let no : errors.TooLong ≡ errors.Alloc = complete (gives (Err errors.TooLong) (λ e. cc) counts is) in cc
  ended_in_memory (Err errors.ReadFault) counts complete is =
      let no : errors.ReadFault ≡ errors.Alloc = complete (gives (Err errors.ReadFault) (λ e. cc) counts is) in cc
  ended_in_memory (Err errors.WriteFault) counts complete is = inr (inr refl)
  ended_in_memory (Err errors.Alloc) counts complete is = inr (inr refl)

  ended : (answer : Result Report RunError) (room : ℕ) → CountsFaults (streams_before script) after answer
      → (GivesComplete reading (streams_before script) after → IsOkUnless answer errors.Alloc) → IsComplete reading script
      → Ended (status_in_room (length text) room answer)
  ended answer room counts complete is =
      by_test (nat_le (length text) room) (λ e. rw e (ended_in_memory answer counts complete is)) (λ e. rw e (ended_short answer))

module _ {K : Type 0} (cmp : K → K → Ordering) (matching : K → K → Bool) (reading : List ℕ → Result K KeyError) (printed : K → List ℕ) where
  -- what the streams are before and after the run, and what was copied, put together
  pub runs_in_memory : (script old new text : List ℕ) (answer : Result Report RunError) (left : Option (List ℕ)) (before after : Streams) (faults copied written status : ℕ)
      → before ≡ streams_before script → after ≡ streams left 0 (Some text) faults
      → Answers cmp matching reading printed before after answer → CountsFaults before after answer → (GivesComplete reading before after → IsOkUnless answer errors.Alloc)
      → copied ≡ min (length text) (length old) → new ≡ take copied text ++ drop copied old
      → written ≡ length text → status ≡ status_in_room (length text) (length old) answer
      → RunsInMemory cmp matching reading printed script old new written status
  runs_in_memory script old new text answer left before after faults copied written status from to answers counts complete copied_is buffer_is written_is status_is =
      let end = streams left 0 (Some text) faults in
      let known : CountsFaults (streams_before script) end answer =
      subst (λ (s : Streams). CountsFaults (streams_before script) s answer) to (subst (λ (s : Streams). CountsFaults s after answer) from counts) in
      let said : Answers cmp matching reading printed (streams_before script) end answer =
      subst (λ (s : Streams). Answers cmp matching reading printed (streams_before script) s answer) to
      (subst (λ (s : Streams). Answers cmp matching reading printed s after answer) from answers) in
      let whole : GivesComplete reading (streams_before script) end → IsOkUnless answer errors.Alloc =
      subst (λ (s : Streams). (GivesComplete reading (streams_before script) s → IsOkUnless answer errors.Alloc)) to
      (subst (λ (s : Streams). (GivesComplete reading s after → IsOkUnless answer errors.Alloc)) from complete) in
      record {
        text = text;
        answer = answer;
        writes = record { left = left; faults = faults; answers = said; counts = known };
        copied = copied;
        copied_is = copied_is;
        buffer_is = buffer_is;
        written_is = written_is;
        status_is = status_is;
        complete = λ is. subst (λ (n : ℕ). Ended n) (sym status_is) (ended reading script text left faults answer (length old) known whole is);
      }
