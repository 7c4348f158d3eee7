-- What a whole run with a monitor answers.
use Rattle.std.proofs.Common.{◌≡◌, ◌⊎◌, ℕ, ◌+◌, ◌≤◌, Bool, true, false, List, [], ◌∷◌, ◌++◌, map, Option, Some, None, Result, Ok, Err, IfOk, IsOkUnless, refl, sym, ap, ◌∙◌, subst, arith}
use Rattle.std.proofs.lemmas.List.{take_all}
use Rattle.std.specs.declared.cmp.Ordering.{Ordering}
use Rattle.std.specs.Io.KnownBytes.{Appends, IsAtEnd}
use Rattle.zt_keys.specs.declared.error.KeyError.{KeyError}
use Rattle.zt_streams.specs.Lines.{lines_of}
use Rattle.zt_streams.specs.Streams.{AppendsPart, HasRisen, TakesFront}
use Rattle.zt_protocol.specs.Plain.{PlainEntry, PlainLine}
use Rattle.zt_protocol.specs.declared.entries.Report.{Report}
use Rattle.zt_protocol.specs.declared.errors.RunError.{RunError}
use Rattle.zt_protocol.specs.declared.errors.RunError.TheVariants as errors
use Rattle.zt_model.specs.Fabric.{empty_fabric, entries_from}
use Rattle.zt_model.specs.Promises.{MeetsPromises, MeetsStricterPromises, turns_from}
use Rattle.zt_model.specs.Transcript.{Each, IsFaithfulFrom, IsStrictFrom}
use Rattle.zt_laws.specs.Sound.{HasFirstIds}
use Rattle.zt_theorem_exact_messages.specs.Exact.{PrintsExactly}
use Rattle.zt_theorem_message_ids.specs.Anew.{TellsWhatIsNew}
use Rattle.zt_theorem_transcript.specs.Named.{HasNamedOptions}
use Rattle.zt_theorem_tree_invariant.specs.Trees.{KeepPromisesOfTrees}
use Rattle.zt_theorem_watch.specs.Tables.{PlainPoll}
use Rattle.zt_fabric.proofs.Printed.{entries_printed}
use Rattle.zt_fabric.proofs.Right.{AreRight}
use Rattle.zt_fabric.specs.Transcripts.{Streams, most_bytes, streams}
use Rattle.zt_plans.specs.Plans.{AreRead, script_lines}
use Rattle.zt_plans.specs.Reading.{ReadingStops, ReadsScript}
use Rattle.zt_plans.specs.declared.plan.Plan.{Plan}
use Rattle.zt_plans.proofs.PlanLemmas.{lines_driven}
use Rattle.zt_workers.specs.Answers.{AnswersFit, GivesDriven, totals_of}
use Rattle.zt_workers.proofs.CompleteLemmas.{complete as complete_alone}
use Rattle.zt_workers.proofs.DriveLemmas.{not_longer, stopped as stopped_alone}
use Rattle.zt_watch_tool.specs.Watching.{AreTranscript, Answers, CarriesOut, IsCarriedOut, Transcribes, watched_text}

module _ {K : Type 0} (reading : List ℕ → Result K KeyError) (cmp : K → K → Ordering) (matching : K → K → Bool) (printed : K → List ℕ) (workers count : ℕ) (expr : Option K) where
  -- nothing was read to its end
  pub stopped : (left left' written : Option (List ℕ)) (rf rf' wf wf' : ℕ) (bytes : List ℕ) (longer : Bool) (e : RunError) → TakesFront most_bytes left left' bytes longer → (longer ≡ false → IsAtEnd left')
      → ReadingStops reading bytes longer e → Answers cmp matching reading printed workers count expr (streams left rf written wf) (streams left' rf' written wf') (Err e)
  stopped left left' written rf rf' wf wf' bytes longer (errors.BadLine n) t ends stops = stopped_alone reading cmp matching printed workers left left' written rf rf' wf wf' bytes longer (errors.BadLine n) t ends stops
  stopped left left' written rf rf' wf wf' bytes longer errors.TooLong t ends stops = stopped_alone reading cmp matching printed workers left left' written rf rf' wf wf' bytes longer errors.TooLong t ends stops
  stopped left left' written rf rf' wf wf' bytes longer errors.Alloc t ends stops = refl
  stopped left left' written rf rf' wf wf' bytes longer errors.ReadFault t ends stops = absurd stops
  stopped left left' written rf rf' wf wf' bytes longer errors.WriteFault t ends stops = absurd stops

  carried_out : (left left' written written' : Option (List ℕ)) (rf rf' wf wf' : ℕ) (bytes text : List ℕ) (longer : Bool) (report : Report) → TakesFront most_bytes left left' bytes longer → (longer ≡ false → IsAtEnd left')
      → (made : Transcribes cmp matching reading printed workers count expr bytes longer text report) → IsCarriedOut cmp matching reading printed workers count expr (streams left rf written wf) (streams left' rf' written' wf') made.answers made.polls
  carried_out left left' written written' rf rf' wf wf' bytes text longer report t ends made =
      let fits = not_longer reading left left' bytes longer t made.whole in
      let whole : bytes ≡ t.read = t.front ∙ take_all most_bytes t.read fits in
      record {
        read = t.read;
        taken = t.taken;
        at_end = ends made.whole;
        script = record { fits = fits; lines = made.lines; are_read = subst (λ b. AreRead reading (lines_of b) made.lines) whole made.are_read; driven = made.driven };
        transcript = made.transcript;
        are_printed = made.are_printed;
        numbers_fit = made.numbers_fit;
      }

  -- all was written
  pub written_whole : (left left' written written' : Option (List ℕ)) (rf rf' wf wf' : ℕ) (bytes text : List ℕ) (longer : Bool) (report : Report) → TakesFront most_bytes left left' bytes longer → (longer ≡ false → IsAtEnd left')
      → Transcribes cmp matching reading printed workers count expr bytes longer text report → Appends written written' text
      → Answers cmp matching reading printed workers count expr (streams left rf written wf) (streams left' rf' written' wf') (Ok report)
  written_whole left left' written written' rf rf' wf wf' bytes text longer report t ends made appended = record {
    answers = made.answers;
    polls = made.polls;
    carried = carried_out left left' written written' rf rf' wf wf' bytes text longer report t ends made;
    totals = made.totals;
    shown = subst (Appends written written') made.text_is appended;
  }

  -- a part of it was
  pub written_in_part : (left left' written written' : Option (List ℕ)) (rf rf' wf wf' : ℕ) (bytes text : List ℕ) (longer : Bool) (report : Report) → TakesFront most_bytes left left' bytes longer → (longer ≡ false → IsAtEnd left')
      → Transcribes cmp matching reading printed workers count expr bytes longer text report → AppendsPart written written' text → HasRisen wf wf'
      → Answers cmp matching reading printed workers count expr (streams left rf written wf) (streams left' rf' written' wf') (Err errors.WriteFault)
  written_in_part left left' written written' rf rf' wf wf' bytes text longer report t ends made part risen = record {
    risen = risen;
    answers = made.answers;
    polls = made.polls;
    carried = carried_out left left' written written' rf rf' wf wf' bytes text longer report t ends made;
    part = subst (AppendsPart written written') made.text_is part;
  }

  -- a script that may be driven is carried out to its end unless memory runs out
  pub complete : (old new : Streams) (result : Result Report RunError) → Answers cmp matching reading printed workers count expr old new result → GivesDriven reading old new → IsOkUnless result errors.Alloc
  complete old new (Ok report) p h = tt
  complete old new (Err (errors.BadLine n)) p h = complete_alone reading cmp matching printed workers old new (Err (errors.BadLine n)) p h
  complete old new (Err errors.TooLong) p h = complete_alone reading cmp matching printed workers old new (Err errors.TooLong) p h
  complete old new (Err errors.ReadFault) p h = complete_alone reading cmp matching printed workers old new (Err errors.ReadFault) p h
  complete old new (Err errors.WriteFault) p h = let calm = h.3 in absurd (calm.1 p.risen)
  complete old new (Err errors.Alloc) p h = refl

  -- The law: what the machine comes to on lines with first ids and named options is right.
  module _ (law : (lines : List (PlainLine K)) → Each HasFirstIds lines → Each HasNamedOptions lines → AreRight cmp matching lines (entries_from cmp matching lines empty_fabric)) where
    are_transcript : (script : List (PlainLine K)) (answers : List (ℕ × PlainEntry K)) (polls : List (PlainPoll K)) → CarriesOut cmp matching workers script count expr answers polls → AreTranscript cmp matching workers script count expr answers polls
    are_transcript script answers polls carries =
        let lines = map (λ (x : ℕ × PlainLine K). x.1) carries.watched.order in
        let right = law lines carries.first_ids carries.named_options in
        let back = sym carries.watched.are_the_machines in
        record {
          watched = carries.watched;
          by_workers = carries.by_workers;
          are_faithful = subst (λ es. IsFaithfulFrom cmp matching lines es empty_fabric) back right.faithful;
          are_strict = subst (λ es. IsStrictFrom cmp matching lines es empty_fabric) back right.strict;
          keep_promises = subst (λ es. Each (MeetsPromises cmp matching) (turns_from cmp matching lines es empty_fabric)) back right.promises;
          keep_stricter_promises = subst (λ es. Each (MeetsStricterPromises cmp matching) (turns_from cmp matching lines es empty_fabric)) back right.stricter_promises;
          tell_what_is_new = subst (λ es. Each (TellsWhatIsNew cmp matching) (turns_from cmp matching lines es empty_fabric)) back right.news;
          print_exactly = subst (λ es. Each (PrintsExactly cmp matching) (turns_from cmp matching lines es empty_fabric)) back right.exactly;
          keep_tree_promises = subst (λ es. KeepPromisesOfTrees cmp matching (turns_from cmp matching lines es empty_fabric)) back right.tree_promises;
        }

    pub printed_transcript : {V E : Type 0} (result : Result V E) (text : V → List ℕ) (totals : V → Report) (bytes : List ℕ) (longer : Bool) (plan : Option (Plan K)) (answers : List (ℕ × PlainEntry K)) (polls : List (PlainPoll K)) → ReadsScript reading bytes longer plan
        → CarriesOut cmp matching workers (script_lines plan) count expr answers polls → IfOk result (λ _. AnswersFit answers) → IfOk result (λ v. text v ≡ watched_text printed answers polls) → IfOk result (λ v. totals v ≡ totals_of answers)
        → IfOk result (λ v. Transcribes cmp matching reading printed workers count expr bytes longer (text v) (totals v))
    printed_transcript (Ok v) text totals bytes longer plan answers polls read carries fit text_is totals_are =
        let transcript = are_transcript (script_lines plan) answers polls carries in
        record {
          whole = read.whole;
          lines = script_lines plan;
          are_read = read.are_read;
          driven = lines_driven plan read.form;
          answers = answers;
          polls = polls;
          transcript = transcript;
          are_printed = entries_printed cmp matching (map (λ (x : ℕ × PlainLine K). x.1) transcript.watched.order) (map (λ (x : ℕ × PlainEntry K). x.1) answers) empty_fabric transcript.are_faithful fit.entries;
          numbers_fit = fit.numbers;
          text_is = text_is;
          totals = totals_are;
        }
    printed_transcript (Err error) text totals bytes longer plan answers polls read carries fit text_is totals_are = tt
