-- What a whole run answers.
use Rattle.std.proofs.Common.{◌≡◌, ℕ, suc, ◌+◌, ◌<◌, ◌≤◌, Bool, true, false, List, [], ◌∷◌, ◌++◌, length, map, Option, Some, Result, Ok, Err, IfOk, inl, inr, refl, sym, ap, ◌∙◌, subst, arith, append-nil}
use Rattle.std.proofs.lemmas.Bool.{cases_lt}
use Rattle.std.proofs.lemmas.List.{length-map, take_all}
use Rattle.std.specs.declared.cmp.Ordering.{Ordering}
use Rattle.std.specs.Io.KnownBytes.{Appends, IsAtEnd}
use Rattle.zt_keys.specs.declared.error.KeyError.{KeyError}
use Rattle.zt_streams.specs.Lines.{is_feed, lines_of, whole_lines}
use Rattle.zt_streams.specs.Streams.{AppendsPart, HasRisen, TakesFront}
use Rattle.zt_streams.proofs.LineLemmas.{lines_of-byte, lines_of-feed}
use Rattle.std.specs.List.{onto_first}
use Rattle.zt_protocol.specs.Plain.{PlainCall, PlainEntry, PlainLine, plain_line, NewSession, NewTransport, DeclareToken, UndeclareToken, Interest, InterestFinal, DeclareFinal, CloseFace, Expire, SetTrees, SetEntities, Speak}
use Rattle.zt_protocol.specs.declared.entries.Report.{Report}
use Rattle.zt_protocol.specs.declared.errors.RunError.{RunError}
use Rattle.zt_protocol.specs.declared.errors.RunError.TheVariants as errors
use Rattle.zt_lines.specs.Fields.{Fields, fields_of}
use Rattle.zt_lines.specs.Grammar.{IsLine}
use Rattle.zt_lines.specs.Reading.{line_read}
use Rattle.zt_lines.proofs.ReadingLaw.{read_exactly}
use Rattle.zt_model.specs.Fabric.{empty_fabric, entries_from}
use Rattle.zt_model.specs.Promises.{MeetsPromises, MeetsStricterPromises, turns_from}
use Rattle.zt_model.specs.Transcript.{Each, IsFaithfulFrom, IsStrictFrom}
use Rattle.zt_theorem_exact_messages.specs.Exact.{PrintsExactly}
use Rattle.zt_theorem_message_ids.specs.Anew.{TellsWhatIsNew}
use Rattle.zt_theorem_tree_invariant.specs.Trees.{KeepPromisesOfTrees}
use Rattle.zt_laws.specs.Sound.{HasFirstIds}
use Rattle.zt_laws.proofs.Lists.{by_test}
use Rattle.zt_theorem_transcript.specs.Named.{HasNamedOptions}
use Rattle.zt_fabric.proofs.Printed.{entries_printed}
use Rattle.zt_fabric.proofs.Right.{AreRight}
use Rattle.zt_theorem_journal.specs.Alone.{Speaks}
use Rattle.zt_fabric.specs.Transcripts.{most_bytes, streams}
use Rattle.zt_workers.specs.Answers.{AnswersFit, AreTranscript, Answers, CarriesOut, answered, totals_of, IsCarriedOut, Transcribes, transcript_text}
use Rattle.zt_plans.specs.Plans.{AreRead, call_of, plan_lines, script_lines}
use Rattle.zt_workers.specs.declared.answering.Answer.{Answer}
use Rattle.zt_plans.specs.declared.plan.Plan.{Plan}
use Rattle.zt_plans.proofs.PlanLemmas.{lines_driven}
use Rattle.zt_plans.specs.Reading.{ReadingStops, ReadsScript}

-- ---- lines that are read

module _ {K : Type 0} (reading : List ℕ → Result K KeyError) where
  -- a line that speaks names a face
  call_in : (fields : Fields) (c : PlainCall K) → IsLine reading fields (Speak c) → Speaks c
  call_in fields (NewSession first) is = absurd is
  call_in fields (NewTransport zid whatami region bound first) is = absurd is
  call_in fields (DeclareToken face id expr node interest) is = (face, refl)
  call_in fields (UndeclareToken face id expr node) is = (face, refl)
  call_in fields (Interest face id mode options expr) is = (face, refl)
  call_in fields (InterestFinal face id) is = (face, refl)
  call_in fields (DeclareFinal face interest) is = (face, refl)
  call_in fields (CloseFace face) is = (face, refl)
  call_in fields (Expire now) is = absurd is
  call_in fields (SetTrees region table) is = absurd is
  call_in fields (SetEntities face subscribers queryables) is = (face, refl)

  abbrev SpeaksIfCall : PlainLine K → Type 0
  SpeaksIfCall (Speak c) = Speaks c
  SpeaksIfCall _ = Unit {0}

  speaks_read : (bytes : List ℕ) (c : PlainCall K) → line_read reading bytes ≡ Ok (Speak c) → Speaks c
  speaks_read bytes c h = call_in (fields_of bytes) c ((read_exactly reading bytes (Speak c)).0 h).1

  -- the last lines of these texts speak
  calls_read : (texts : List (List ℕ)) (cs : List (PlainCall K)) → AreRead reading texts (map (λ c. Speak c) cs) → Each Speaks cs
  calls_read texts [] h = tt
  calls_read [] (c ∷ cs) h = absurd (cc)
  calls_read (bytes ∷ texts) (c ∷ cs) h =
      let head : line_read reading bytes ≡ Ok (Speak c) = cc in
      let others : map (line_read reading) texts ≡ map (λ line. Ok line) (map (λ c. Speak c) cs) = cc in
      (speaks_read bytes c head, calls_read texts cs others)

  pub script_speaks : (texts : List (List ℕ)) (ms : List (PlainLine K)) (cs : List (PlainCall K)) → AreRead reading texts (ms ++ map (λ c. Speak c) cs) → Each Speaks cs
  script_speaks texts [] cs h = calls_read texts cs h
  script_speaks [] (m ∷ ms) cs h = absurd (cc)
  script_speaks (bytes ∷ texts) (m ∷ ms) cs h =
      let others : map (line_read reading) texts ≡ map (λ line. Ok line) (ms ++ map (λ c. Speak c) cs) = cc in
      script_speaks texts ms cs others

  -- ---- what was read

  pub not_longer : (a b : Option (List ℕ)) (bytes : List ℕ) (longer : Bool) (t : TakesFront most_bytes a b bytes longer) → longer ≡ false → length t.read ≤ most_bytes
  not_longer a b bytes longer t whole = elim (cases_lt most_bytes (length t.read)) as (λ _. length t.read ≤ most_bytes) [
    | inl more ↦ let longer_ : longer ≡ true = t.longer_is.1 more in absurd (cc)
    | inr fits ↦ fits
  ]

  module _ (cmp : K → K → Ordering) (matching : K → K → Bool) (printed : K → List ℕ) (workers : ℕ) where
    -- nothing was read to its end
    pub stopped : (left left' written : Option (List ℕ)) (rf rf' wf wf' : ℕ) (bytes : List ℕ) (longer : Bool) (e : RunError) → TakesFront most_bytes left left' bytes longer → (longer ≡ false → IsAtEnd left')
        → ReadingStops reading bytes longer e → Answers cmp matching reading printed workers (streams left rf written wf) (streams left' rf' written wf') (Err e)
    stopped left left' written rf rf' wf wf' bytes longer (errors.BadLine n) t ends stops =
        elim stops as (λ _. Answers cmp matching reading printed workers (streams left rf written wf) (streams left' rf' written wf') (Err (errors.BadLine n))) [
          | inl bad ↦ (
            record {
              read = t.read;
              taken = t.taken;
              texts = whole_lines bytes;
              first = inl ([], ap whole_lines (sym t.front) ∙ sym (append-nil (whole_lines bytes)));
              bad = bad;
            },
            refl,
          )
          | inr both ↦ (
            let fits = not_longer left left' bytes longer t both.0 in
                let whole : bytes ≡ t.read = t.front ∙ take_all most_bytes t.read fits in
                record {
                  read = t.read;
                  taken = t.taken;
                  texts = lines_of bytes;
                  first = inr ([], ends both.0, fits, ap lines_of (sym whole) ∙ sym (append-nil (lines_of bytes)));
                  bad = both.1;
                },
            refl,
          )
        ]
    stopped left left' written rf rf' wf wf' bytes longer errors.TooLong t ends stops = (
      record {
        read = t.read;
        taken = t.taken;
        longer = t.longer_is.0 stops.0;
        lines = stops.1;
        are_read = subst (λ b. AreRead reading (whole_lines b) stops.1) t.front stops.2;
        driven = stops.3;
      },
      refl,
    )
    stopped left left' written rf rf' wf wf' bytes longer errors.Alloc t ends stops = refl
    stopped left left' written rf rf' wf wf' bytes longer errors.ReadFault t ends stops = absurd stops
    stopped left left' written rf rf' wf wf' bytes longer errors.WriteFault t ends stops = absurd stops

    pub carried_out : (left left' written written' : Option (List ℕ)) (rf rf' wf wf' : ℕ) (bytes text : List ℕ) (longer : Bool) (report : Report) → TakesFront most_bytes left left' bytes longer → (longer ≡ false → IsAtEnd left')
        → (made : Transcribes cmp matching reading printed workers bytes longer text report) → IsCarriedOut cmp matching reading printed workers (streams left rf written wf) (streams left' rf' written' wf') made.answers
    carried_out left left' written written' rf rf' wf wf' bytes text longer report t ends made =
        let fits = not_longer left left' bytes longer t made.whole in
        let whole : bytes ≡ t.read = t.front ∙ take_all most_bytes t.read fits in
        record {
          read = t.read;
          taken = t.taken;
          at_end = ends made.whole;
          script = record { fits = fits; lines = made.lines; are_read = subst (λ b. AreRead reading (lines_of b) made.lines) whole made.are_read; driven = made.driven };
          transcript = made.transcript;
          are_printed = made.are_printed;
          numbers_fit = made.numbers_fit;
        }

    -- the transcript was written
    pub written_whole : (left left' written written' : Option (List ℕ)) (rf rf' wf wf' : ℕ) (bytes text : List ℕ) (longer : Bool) (report : Report) → TakesFront most_bytes left left' bytes longer → (longer ≡ false → IsAtEnd left')
        → Transcribes cmp matching reading printed workers bytes longer text report → Appends written written' text
        → Answers cmp matching reading printed workers (streams left rf written wf) (streams left' rf' written' wf') (Ok report)
    written_whole left left' written written' rf rf' wf wf' bytes text longer report t ends made appended = record {
      answers = made.answers;
      carried = carried_out left left' written written' rf rf' wf wf' bytes text longer report t ends made;
      totals = made.totals;
      shown = subst (Appends written written') made.text_is appended;
    }

    -- a part of it was
    pub written_in_part : (left left' written written' : Option (List ℕ)) (rf rf' wf wf' : ℕ) (bytes text : List ℕ) (longer : Bool) (report : Report) → TakesFront most_bytes left left' bytes longer → (longer ≡ false → IsAtEnd left')
        → Transcribes cmp matching reading printed workers bytes longer text report → AppendsPart written written' text → HasRisen wf wf'
        → Answers cmp matching reading printed workers (streams left rf written wf) (streams left' rf' written' wf') (Err errors.WriteFault)
    written_in_part left left' written written' rf rf' wf wf' bytes text longer report t ends made part risen = record {
      risen = risen;
      answers = made.answers;
      carried = carried_out left left' written written' rf rf' wf wf' bytes text longer report t ends made;
      part = subst (AppendsPart written written') made.text_is part;
    }

-- ---- what is carried out

-- a text has no more lines than bytes
onto_long : (byte : ℕ) (lines : List (List ℕ)) (n : ℕ) → length lines ≤ n → length (onto_first byte lines) ≤ suc n
onto_long byte [] n few = omega arith
onto_long byte (line ∷ lines) n few = omega arith

pub lines_fit : (text : List ℕ) → length (lines_of text) ≤ length text
lines_fit [] = omega arith
lines_fit (byte ∷ text) =
    let rest = lines_fit text in
    by_test (is_feed byte)
    (λ feed. subst (λ (ls : List (List ℕ)). length ls ≤ suc (length text)) (sym (lines_of-feed byte text feed)) (omega arith))
    (λ other. subst (λ (ls : List (List ℕ)). length ls ≤ suc (length text)) (sym (lines_of-byte byte text other)) (onto_long byte (lines_of text) (length text) rest))

module _ {K : Type 0} (reading : List ℕ → Result K KeyError) where
  pub few_lines : (bytes : List ℕ) (lines : List (PlainLine K)) → AreRead reading (lines_of bytes) lines → length lines ≤ length bytes
  few_lines bytes lines read =
      let fit = lines_fit bytes in
      let same : length lines ≡ length (lines_of bytes) =
      sym (length-map lines (λ (line : PlainLine K). let o : Result (PlainLine K) _ = Ok line in o)) ∙ sym (ap length read) ∙ length-map (lines_of bytes) (line_read reading)
      in
      omega arith

  -- of a plan that was read
  pub lines_read : (bytes : List ℕ) (longer : Bool) (read : Option (Plan K)) (plan : Plan K) → ReadsScript reading bytes longer read → read ≡ Some plan → AreRead reading (lines_of bytes) (plan_lines plan)
  lines_read bytes longer read plan reads is = subst (λ (p : Option (Plan K)). AreRead reading (lines_of bytes) (script_lines p)) is reads.are_read

  pub plan_small : (bytes : List ℕ) (plan : Plan K) → AreRead reading (lines_of bytes) (plan_lines plan) → length bytes ≤ most_bytes → length (plan_lines plan) < 2147483648
  plan_small bytes plan read fits = let few = few_lines bytes (plan_lines plan) read in omega (arith, few)

  pub plan_speaks : (texts : List (List ℕ)) (plan : Plan K) → AreRead reading texts (plan_lines plan) → Each Speaks (map call_of plan.calls.items)
  plan_speaks [] plan read = absurd (cc)
  plan_speaks (bytes ∷ texts) plan read =
      let others : map (line_read reading) texts ≡ map (λ line. Ok line) (map plain_line plan.makings.items ++ map (λ c. Speak c) (map call_of plan.calls.items)) = cc in
      script_speaks reading texts (map plain_line plan.makings.items) (map call_of plan.calls.items) others

  module _ (cmp : K → K → Ordering) (matching : K → K → Bool) (printed : K → List ℕ) (workers : ℕ) where
    -- an empty script
    pub none_carried : CarriesOut cmp matching workers [] []
    unfolding entries_from
    none_carried = record {
      reorders = record {
        order = [];
        reordered = record { same_length = refl; makings = refl; makings_first = refl; each_face = λ face. refl; unstarted = λ none. refl };
        numbers = refl;
        are_the_machines = refl;
      };
      by_workers = λ started. absurd (let no : false ≡ true = started in cc);
      first_ids = tt;
      named_options = tt;
    }

    pub none_answered : (answers : List (Answer K)) → answers ≡ [] → CarriesOut cmp matching workers [] (map answered answers)
    none_answered answers none = subst (λ (xs : List (Answer K)). CarriesOut cmp matching workers [] (map answered xs)) (sym none) none_carried

    -- The law: what the machine comes to on lines with first ids and named options is right.
    module _ (law : (lines : List (PlainLine K)) → Each HasFirstIds lines → Each HasNamedOptions lines → AreRight cmp matching lines (entries_from cmp matching lines empty_fabric)) where
      are_transcript : (script : List (PlainLine K)) (answers : List (ℕ × PlainEntry K)) → CarriesOut cmp matching workers script answers → AreTranscript cmp matching workers script answers
      are_transcript script answers carries =
          let lines = map (λ (x : ℕ × PlainLine K). x.1) carries.reorders.order in
          let right = law lines carries.first_ids carries.named_options in
          let back = sym carries.reorders.are_the_machines in
          record {
            reorders = carries.reorders;
            by_workers = carries.by_workers;
            are_faithful = subst (λ es. IsFaithfulFrom cmp matching lines es empty_fabric) back right.faithful;
            are_strict = subst (λ es. IsStrictFrom cmp matching lines es empty_fabric) back right.strict;
            keep_promises = subst (λ es. Each (MeetsPromises cmp matching) (turns_from cmp matching lines es empty_fabric)) back right.promises;
            keep_stricter_promises = subst (λ es. Each (MeetsStricterPromises cmp matching) (turns_from cmp matching lines es empty_fabric)) back right.stricter_promises;
            tell_what_is_new = subst (λ es. Each (TellsWhatIsNew cmp matching) (turns_from cmp matching lines es empty_fabric)) back right.news;
            print_exactly = subst (λ es. Each (PrintsExactly cmp matching) (turns_from cmp matching lines es empty_fabric)) back right.exactly;
            keep_tree_promises = subst (λ es. KeepPromisesOfTrees cmp matching (turns_from cmp matching lines es empty_fabric)) back right.tree_promises;
          }

      pub transcribed : (bytes text : List ℕ) (longer : Bool) (report : Report) (plan : Option (Plan K)) (answers : List (ℕ × PlainEntry K)) → ReadsScript reading bytes longer plan → CarriesOut cmp matching workers (script_lines plan) answers
          → AnswersFit answers → text ≡ transcript_text printed answers → report ≡ totals_of answers → Transcribes cmp matching reading printed workers bytes longer text report
      transcribed bytes text longer report plan answers read carries fit text_is totals =
          let transcript = are_transcript (script_lines plan) answers carries in
          record {
            whole = read.whole;
            lines = script_lines plan;
            are_read = read.are_read;
            driven = lines_driven plan read.form;
            answers = answers;
            transcript = transcript;
            are_printed = entries_printed cmp matching (map (λ (x : ℕ × PlainLine K). x.1) transcript.reorders.order) (map (λ (x : ℕ × PlainEntry K). x.1) answers) empty_fabric transcript.are_faithful fit.entries;
            numbers_fit = fit.numbers;
            text_is = text_is;
            totals = totals;
          }

      pub printed_transcript : {V E : Type 0} (result : Result V E) (text : V → List ℕ) (totals : V → Report) (bytes : List ℕ) (longer : Bool) (plan : Option (Plan K)) (answers : List (ℕ × PlainEntry K)) → ReadsScript reading bytes longer plan
          → CarriesOut cmp matching workers (script_lines plan) answers → IfOk result (λ _. AnswersFit answers) → IfOk result (λ v. text v ≡ transcript_text printed answers) → IfOk result (λ v. totals v ≡ totals_of answers)
          → IfOk result (λ v. Transcribes cmp matching reading printed workers bytes longer (text v) (totals v))
      printed_transcript (Ok v) text totals bytes longer plan answers read carries fit text_is totals_are = transcribed bytes (text v) longer (totals v) plan answers read carries fit text_is totals_are
      printed_transcript (Err error) text totals bytes longer plan answers read carries fit text_is totals_are = tt
