-- The answers of a whole script.
use Rattle.std.proofs.Common.{◌≡◌, ℕ, suc, ◌+◌, ◌<◌, Bool, true, false, not, ◌==◌, is_none, is_some, List, [], ◌∷◌, ◌++◌, length, map, filter, Option, Some, None, option_map, Result, Ok, Err, IfOk, refl, sym, ap, ◌∙◌, subst, arith, length-append}
use Rattle.std.specs.Cmp.{IsTotalOrder}
use Rattle.std.proofs.lemmas.List.{length-map}
use Rattle.std.proofs.lemmas.Result.{IfOk-weaker}
use Rattle.std.specs.declared.cmp.Ordering.{Ordering}
use Rattle.zt_protocol.specs.Plain.{PlainCall, PlainEntry, PlainLine, Gateway, Session, Face as FaceLine, Link, Unlink, Step, Speak, Moment, SetTreesAt, plain_entry, plain_line}
use Rattle.zt_protocol.specs.declared.entries.Entry.{Entry}
use Rattle.zt_protocol.specs.declared.errors.CallError.{CallError}
use Rattle.zt_protocol.specs.declared.errors.CallError.TheVariants.{Refused}
use Rattle.zt_protocol.specs.declared.lines.Line.{Line}
use Rattle.zt_protocol.specs.declared.errors.Refusal.{Refusal}
use Rattle.zt_protocol.specs.declared.errors.Refusal.TheVariants as refusal
use Rattle.zt_model.specs.Fabric.{empty_fabric, entries_from, line_causes}
use Rattle.zt_model.specs.Journal.{IsReplay, Journalled, is_driven, is_making, is_speaking}
use Rattle.zt_model.specs.Refusals.{first_cause}
use Rattle.zt_model.specs.Rows.{Rows}
use Rattle.zt_model.specs.Transcript.{Each}
use Rattle.zt_laws.specs.Sound.{HasFirstIds}
use Rattle.zt_laws.proofs.Lists.{each_append, each_filter, each_front, each_map, map-append, map-map, never}
use Rattle.zt_theorem_transcript.specs.Named.{HasNamedOptions}
use Rattle.zt_gateway.specs.Running.{Running}
use Rattle.zt_gateway.specs.Settings.{Settings, line_of, new_gateway}
use Rattle.zt_theorem_journal.specs.Alone.{IsAlone, Speaks, made_entries, rows_made}
use Rattle.zt_theorem_journal.specs.Dealt.{IsDealt, numbered_from, order_of, script_of, worker_of}
use Rattle.zt_theorem_journal.proofs.Order.{each_numbered, each_of_map, each_part, is_reordered, map_second, order_lines}
use Rattle.zt_theorem_journal.proofs.Replay.{script_comes, script_refused}
use Rattle.zt_shared.specs.Recorded.{journalled, plain_outcome}
use Rattle.zt_shared.specs.declared.entries.JournalEntry.{JournalEntry}
use Rattle.zt_theorem_watch.specs.Watched.{fabric_of}
use Rattle.zt_workers.specs.Answers.{CarriesOut, answered, calls_in}
use Rattle.zt_dealing.specs.Dealing.{IsMadeByWorkers, with_lines}
use Rattle.zt_plans.specs.Plans.{IsPlan, call_of, numbered, plan_lines}
use Rattle.zt_workers.specs.declared.answering.Answer.{Answer}
use Rattle.zt_plans.specs.declared.plan.Numbered.{Numbered}
use Rattle.zt_plans.specs.declared.plan.Plan.{Plan}
use Rattle.zt_workers.proofs.MadeLemmas.{as_many_entries}
use Rattle.zt_workers.proofs.StartLemmas.{starts_alone}
use Rattle.zt_dealing.proofs.OrderLemmas.{all_seconds, lines_map}
use Rattle.zt_plans.proofs.PlanLemmas.{script_driven}

each_back : {A : Type 0} (P : A → Type 0) (xs ys : List A) → Each P (xs ++ ys) → Each P ys
each_back P [] ys all = all
each_back P (x ∷ xs) ys all = each_back P xs ys all.1

-- numbers alone
firsts_alike : {A B : Type 0} (n : ℕ) (xs : List A) (ys : List B) → length xs ≡ length ys → map (λ x. x.0) (numbered_from n xs) ≡ map (λ y. y.0) (numbered_from n ys)
firsts_alike n [] [] same = refl
firsts_alike n [] (y ∷ ys) same = absurd (omega arith)
firsts_alike n (x ∷ xs) [] same = absurd (omega arith)
firsts_alike n (x ∷ xs) (y ∷ ys) same = ap (λ ns. n ∷ ns) (firsts_alike (n + 1) xs ys (omega arith))

cause_of : (cause : Option Refusal) (r : Refusal) (error : CallError) → option_map Refused cause ≡ Some error → error ≡ Refused r → cause ≡ Some r
cause_of None r error caused is = let none : None ≡ Some error = caused in cc
cause_of (Some cause) r error caused is = let same : Some (Refused cause) ≡ Some error = caused in cc

-- ---- the calls of a script

module _ {K : Type 0} where
  calls_spoken : (n : ℕ) (calls : List (PlainCall K)) → calls_in (numbered_from n (map (λ c. Speak c) calls)) ≡ numbered_from n calls
  calls_spoken n [] = refl
  calls_spoken n (c ∷ calls) = ap (λ cs. (n, c) ∷ cs) (calls_spoken (n + 1) calls)

  -- a line that opens a face is no call
  no_call : (n : ℕ) (line : PlainLine K) (lines : List (ℕ × PlainLine K)) → is_making line ≡ true → calls_in ((n, line) ∷ lines) ≡ calls_in lines
  no_call n (Gateway mode zid regions south name timeout refused) lines making = refl
  no_call n (Session gateway first) lines making = refl
  no_call n (FaceLine gateway mode zid region bound first) lines making = refl
  no_call n (Link one two first back) lines making = refl
  no_call n (Unlink link) lines making = refl
  no_call n (Step link back) lines making = refl
  no_call n (Speak call) lines making = never making refl
  no_call n (Moment gateway now) lines making = refl
  no_call n (SetTreesAt gateway region table) lines making = refl

  pub calls_behind : (n : ℕ) (makings : List (PlainLine K)) (calls : List (PlainCall K)) → Each (λ m. is_making m ≡ true) makings → calls_in (numbered_from n (makings ++ map (λ c. Speak c) calls)) ≡ numbered_from (n + length makings) calls
  calls_behind n [] calls making = calls_spoken n calls ∙ ap (λ k. numbered_from k calls) (let same : n ≡ n + 0 = omega arith in same)
  calls_behind n (m ∷ makings) calls making =
      no_call n m (numbered_from (n + 1) (makings ++ map (λ c. Speak c) calls)) making.0
      ∙ calls_behind (n + 1) makings calls making.1
      ∙ ap (λ k. numbered_from k calls) (let same : (n + 1) + length makings ≡ n + suc (length makings) = omega arith in same)

module _ {K : Type 0} (cmp : K → K → Ordering) (matching : K → K → Bool) (total : IsTotalOrder cmp) (s : Settings) (makings : List (PlainLine K)) (calls : List (PlainCall K)) where
  abbrev line : PlainLine K
  line = line_of s

  abbrev script : List (PlainLine K)
  script = script_of line makings calls

  -- The gateway is refused.
  pub all_refused : (workers : ℕ) (r : Refusal) (answers : List (ℕ × PlainEntry K)) → first_cause (line_causes cmp matching false line empty_fabric) ≡ Some r → Each (λ m. is_making m ≡ true) makings → Each Speaks calls
      → Each HasFirstIds script → Each HasNamedOptions script
      → answers ≡ numbered_from 1 (Err r ∷ (map (λ m. Err refusal.UnknownGateway) makings ++ map (λ c. Err refusal.UnknownFace) calls)) → CarriesOut cmp matching workers script answers
  all_refused workers r answers caused making speak first named is = record {
    reorders = record {
      order = numbered_from 1 script;
      reordered = record {
        same_length = refl;
        makings = refl;
        makings_first = ap is_driven (map_second 1 script) ∙ script_driven s makings calls making;
        each_face = λ face. refl;
        unstarted = λ none. refl;
      };
      numbers = ap (map (λ x. x.0)) is ∙ firsts_alike 1 entries script long;
      are_the_machines =
          ap (map (λ x. x.1)) is ∙ map_second 1 entries
          ∙ sym (ap (λ ls. entries_from cmp matching ls empty_fabric) (map_second 1 script) ∙ script_refused cmp matching total s.mode s.zid s.regions s.south s.name s.timeout s.refused r makings calls caused making speak);
    };
    by_workers = λ started. absurd (let no : false ≡ true = sym (ap is_none caused) ∙ started in cc);
    first_ids = subst (Each HasFirstIds) (sym (map_second 1 script)) first;
    named_options = subst (Each HasNamedOptions) (sym (map_second 1 script)) named;
  }
    where
      entries : List (PlainEntry K)
      entries = Err r ∷ (map (λ m. Err refusal.UnknownGateway) makings ++ map (λ c. Err refusal.UnknownFace) calls)

      long : length entries ≡ length script
      long =
          let ms : List (PlainEntry K) = map (λ m. Err refusal.UnknownGateway) makings in
          let cs : List (PlainEntry K) = map (λ c. Err refusal.UnknownFace) calls in
          let one : length ms ≡ length makings = length-map makings _ in
          let two : length cs ≡ length calls = length-map calls _ in
          let three : length (map (λ (c : PlainCall K). Speak c) calls) ≡ length calls = length-map calls _ in
          ap suc (length-append ms cs ∙ ap (λ n. n + length cs) one ∙ ap (λ n. length makings + n) (two ∙ sym three) ∙ sym (length-append makings (map (λ (c : PlainCall K). Speak c) calls)))

  -- The gateway is made, and workers have made the calls.
  module _ (workers : ℕ) (some : 0 < workers) (journal : List (Journalled K)) (lines : List ℕ) (rows : Rows K) (made : IsMadeByWorkers cmp matching workers (numbered_from (2 + length makings) calls) rows journal lines) where
    abbrev lined : List (ℕ × Journalled K)
    lined = with_lines lines journal

    dealt : Each Speaks calls → IsDealt workers (2 + length makings) calls lined
    dealt speak = record { some = some; speak = speak; passes = made.passes; parts = made.parts }

    -- what holds of each call holds of each entry's
    each_entry : (P : PlainCall K → Type 0) → Each P calls → Each (λ e. P e.call) journal
    each_entry P all =
        subst (Each (λ (e : Journalled K). P e.call)) (all_seconds lines journal made.long)
        (each_map (λ (e : Journalled K). P e.call) (λ (x : ℕ × Journalled K). x.1) lined
        (each_part (λ p x. P x.1.call) (λ x. x.1.pass) workers lined made.passes
        (λ p less.
        each_of_map (λ (x : ℕ × PlainCall K). P x.1) (λ (x : ℕ × Journalled K). (x.0, x.1.call)) (filter (λ x. x.1.pass == p) lined)
        (subst (Each (λ (x : ℕ × PlainCall K). P x.1)) (sym (made.parts p less))
        (each_filter (λ (x : ℕ × PlainCall K). P x.1) (λ x. worker_of workers x.1 == p) (numbered_from (2 + length makings) calls) (each_numbered P (2 + length makings) calls all))))))

    each_speaking : (P : PlainLine K → Type 0) (es : List (Journalled K)) → Each (λ e. P (Speak e.call)) es → Each P (map (λ (e : Journalled K). Speak e.call) es)
    each_speaking P es all = each_map P (λ (e : Journalled K). Speak e.call) es all

    order_is : (speak : Each Speaks calls) → map (λ x. x.1) (order_of line makings lined) ≡ line ∷ (makings ++ map (λ (e : Journalled K). Speak e.call) journal)
    order_is speak =
        order_lines workers (2 + length makings) calls lined (dealt speak) cmp matching line makings
        ∙ ap (λ es. line ∷ (makings ++ map (λ (e : Journalled K). Speak e.call) es)) (all_seconds lines journal made.long)

    all_speak_first : (es : List (Journalled K)) → Each (λ e. HasFirstIds (Speak e.call)) es
    all_speak_first [] = tt
    all_speak_first (e ∷ es) = (tt, all_speak_first es)

    pub all_made : (answers : List (ℕ × PlainEntry K)) → first_cause (line_causes cmp matching false line empty_fabric) ≡ None → rows ≡ rows_made cmp matching makings (new_gateway {K = K} s).rows
        → Each (λ m. is_making m ≡ true) makings → Each Speaks calls → Each HasFirstIds makings → Each HasNamedOptions makings → Each (λ c. HasNamedOptions (Speak c)) calls
        → answers ≡ numbered_from 1 (Ok [] ∷ made_entries cmp matching makings (new_gateway {K = K} s).rows) ++ with_lines lines (map (λ e. e.outcome) journal)
        → CarriesOut cmp matching workers script answers
    all_made answers accepted rows_are making speak first named named_calls is = record {
      reorders = record {
        order = order_of line makings lined;
        reordered = is_reordered workers (2 + length makings) calls lined (dealt speak) cmp matching line makings refl (λ more. refl) making (ap is_some accepted);
        numbers =
            ap (map (λ x. x.0)) is ∙ map-append (λ (x : ℕ × PlainEntry K). x.0) (numbered_from 1 (Ok [] ∷ opened)) (with_lines lines (map (λ e. e.outcome) journal))
            ∙ ap (λ ns. (1 ∷ ns) ++ map (λ (x : ℕ × PlainEntry K). x.0) (with_lines lines (map (λ e. e.outcome) journal))) (firsts_alike 2 opened makings (as_many_entries cmp matching makings start))
            ∙ ap (λ ns. (1 ∷ map (λ (x : ℕ × PlainLine K). x.0) (numbered_from 2 makings)) ++ ns) numbers_behind
            ∙ ap (λ ns. 1 ∷ ns) (sym (map-append (λ (x : ℕ × PlainLine K). x.0) (numbered_from 2 makings) (map (λ x. (x.0, Speak x.1.call)) lined)));
        are_the_machines =
            ap (map (λ x. x.1)) is ∙ map-append (λ (x : ℕ × PlainEntry K). x.1) (numbered_from 1 (Ok [] ∷ opened)) (with_lines lines (map (λ e. e.outcome) journal))
            ∙ ap (λ es. es ++ map (λ (x : ℕ × PlainEntry K). x.1) (with_lines lines (map (λ e. e.outcome) journal))) (map_second 1 (Ok [] ∷ opened))
            ∙ ap (λ es. (Ok [] ∷ opened) ++ es) (all_seconds lines (map (λ (e : Journalled K). e.outcome) journal) (made.long ∙ sym (length-map journal (λ (e : Journalled K). e.outcome))))
            ∙ sym (ap (λ ls. entries_from cmp matching ls empty_fabric) (order_is speak)
            ∙ script_comes cmp matching total s.mode s.zid s.regions s.south s.name s.timeout s.refused makings journal accepted making first (each_entry Speaks speak)
            (subst (λ (g : Rows K). IsReplay cmp matching journal g) rows_are made.replay));
      };
      by_workers = λ started. record {
        rows = rows;
        starts =
            subst (λ (g : Rows K). IsAlone cmp matching g (fabric_of cmp matching (filter (λ l. not (is_speaking l)) script) empty_fabric)) (sym rows_are)
            (starts_alone cmp matching total s makings calls accepted making first);
        journal = journal;
        lines = lines;
        made = subst (λ (cs : List (ℕ × PlainCall K)). IsMadeByWorkers cmp matching workers cs rows journal lines) (sym (calls_behind 2 makings calls making)) made;
        before = numbered_from 1 (Ok [] ∷ opened);
        answers_are = is;
      };
      first_ids = subst (Each HasFirstIds) (sym (order_is speak)) (tt, each_append HasFirstIds makings (map (λ (e : Journalled K). Speak e.call) journal) first (each_speaking HasFirstIds journal (all_speak_first journal)));
      named_options = subst (Each HasNamedOptions) (sym (order_is speak))
          (tt, each_append HasNamedOptions makings (map (λ (e : Journalled K). Speak e.call) journal) named (each_speaking HasNamedOptions journal (each_entry (λ c. HasNamedOptions (Speak c)) named_calls)));
    }
      where
        start : Rows K
        start = (new_gateway {K = K} s).rows

        opened : List (PlainEntry K)
        opened = made_entries cmp matching makings start

        numbers_behind : map (λ (x : ℕ × PlainEntry K). x.0) (with_lines lines (map (λ e. e.outcome) journal)) ≡ map (λ (x : ℕ × PlainLine K). x.0) (map (λ x. (x.0, Speak x.1.call)) lined)
        numbers_behind =
            ap (map (λ (x : ℕ × PlainEntry K). x.0)) (lines_map (λ (e : Journalled K). e.outcome) lines journal)
            ∙ map-map (λ (x : ℕ × PlainEntry K). x.0) (λ (x : ℕ × Journalled K). (x.0, x.1.outcome)) lined
            ∙ sym (map-map (λ (x : ℕ × PlainLine K). x.0) (λ (x : ℕ × Journalled K). (x.0, Speak x.1.call)) lined)

-- ---- plans

module _ {K : Type 0} (cmp : K → K → Ordering) (matching : K → K → Bool) (total : IsTotalOrder cmp) (plan : Plan K) (is : IsPlan plan) (first : Each HasFirstIds (plan_lines plan)) (named : Each HasNamedOptions (plan_lines plan)) (speak : Each Speaks (map call_of plan.calls.items)) where
  abbrev makings_of : List (PlainLine K)
  makings_of = map plain_line plan.makings.items

  abbrev spoken_of : List (PlainCall K)
  spoken_of = map call_of plan.calls.items

  -- The plan's gateway is refused.
  pub plan_refused : (workers : ℕ) (r : Refusal) (answers : List (Answer K)) → first_cause (line_causes cmp matching false (line_of plan.gateway) empty_fabric) ≡ Some r
      → map answered answers ≡ numbered_from 1 (Err r ∷ (map (λ m. Err refusal.UnknownGateway) plan.makings.items ++ map (λ c. Err refusal.UnknownFace) plan.calls.items))
      → CarriesOut cmp matching workers (plan_lines plan) (map answered answers)
  plan_refused workers r answers caused are =
      let ms : map (λ m. Err refusal.UnknownGateway) makings_of ≡ map (λ m. Err refusal.UnknownGateway) plan.makings.items = map-map _ plain_line plan.makings.items in
      let cs : map (λ c. Err refusal.UnknownFace) spoken_of ≡ map (λ c. Err refusal.UnknownFace) plan.calls.items = map-map _ call_of plan.calls.items in
      all_refused cmp matching total plan.gateway makings_of spoken_of workers r (map answered answers) caused is.making speak first named
      (are ∙ ap (λ (es : List (PlainEntry K)). numbered_from 1 (Err r ∷ (es ++ map (λ c. Err refusal.UnknownFace) plan.calls.items))) (sym ms)
      ∙ ap (λ (es : List (PlainEntry K)). numbered_from 1 (Err r ∷ (map (λ m. Err refusal.UnknownGateway) makings_of ++ es))) (sym cs))

  -- The plan's gateway is made, its faces are opened, and workers have made its calls.
  pub plan_made : (workers : ℕ) → 0 < workers → (entries : List (Entry K)) (rows : Rows K) (journal : List (JournalEntry K)) (lines : List ℕ) (opened answers : List (Answer K))
      → first_cause (line_causes cmp matching false (line_of plan.gateway) empty_fabric) ≡ None
      → map plain_entry entries ≡ made_entries cmp matching makings_of (new_gateway {K = K} plan.gateway).rows
      → rows ≡ rows_made cmp matching makings_of (new_gateway {K = K} plan.gateway).rows
      → IsMadeByWorkers cmp matching workers (map numbered plan.calls.items) rows (map journalled journal) lines
      → map answered opened ≡ numbered_from 1 (Ok [] ∷ map plain_entry entries)
      → map answered answers ≡ map answered opened ++ with_lines lines (map (λ e. plain_outcome e.outcome) journal)
      → CarriesOut cmp matching workers (plan_lines plan) (map answered answers)
  plan_made workers some entries rows journal lines opened answers accepted entries_are rows_are made opened_are are =
      let made_ = subst (λ (cs : List (ℕ × PlainCall K)). IsMadeByWorkers cmp matching workers cs rows (map journalled journal) lines) is.numbers made in
      let outcomes : map (λ (e : Journalled K). e.outcome) (map journalled journal) ≡ map (λ (e : JournalEntry K). plain_outcome e.outcome) journal = map-map (λ (e : Journalled K). e.outcome) journalled journal in
      all_made cmp matching total plan.gateway makings_of spoken_of workers some (map journalled journal) lines rows made_ (map answered answers) accepted rows_are is.making speak
      (each_front HasFirstIds makings_of (map (λ c. Speak c) spoken_of) first.1) (each_front HasNamedOptions makings_of (map (λ c. Speak c) spoken_of) named.1)
      (each_of_map HasNamedOptions (λ (c : PlainCall K). Speak c) spoken_of (each_back HasNamedOptions makings_of (map (λ c. Speak c) spoken_of) named.1))
      (are ∙ ap (λ xs. xs ++ with_lines lines (map (λ (e : JournalEntry K). plain_outcome e.outcome) journal)) (opened_are ∙ ap (λ (es : List (PlainEntry K)). numbered_from 1 (Ok [] ∷ es)) entries_are)
      ∙ ap (λ es. numbered_from 1 (Ok [] ∷ made_entries cmp matching makings_of (new_gateway {K = K} plan.gateway).rows) ++ with_lines lines es) (sym outcomes))

  -- The same of what the functions say.
  pub plan_done : (workers : ℕ) → 0 < workers → (slice : List (Line K)) (begun opened_on : Running K) (entries : List (Entry K)) (journal : List (JournalEntry K)) (lines slice_lines : List ℕ) (opened answers : List (Answer K))
      → first_cause (line_causes cmp matching false (line_of plan.gateway) empty_fabric) ≡ None
      → slice ≡ plan.makings.items → begun ≡ new_gateway plan.gateway
      → map plain_entry entries ≡ made_entries cmp matching (map plain_line slice) begun.rows
      → opened_on ≡ record { rows = rows_made cmp matching (map plain_line slice) begun.rows; waiting = [] }
      → IsMadeByWorkers cmp matching workers (map numbered plan.calls.items) opened_on.rows (map journalled journal) lines
      → map answered opened ≡ numbered_from 1 (Ok [] ∷ map plain_entry entries)
      → slice_lines ≡ lines
      → map answered answers ≡ map answered opened ++ with_lines slice_lines (map (λ e. plain_outcome e.outcome) journal)
      → CarriesOut cmp matching workers (plan_lines plan) (map answered answers)
  plan_done workers some slice begun opened_on entries journal lines slice_lines opened answers accepted slice_is begun_is entries_are opened_is made opened_are same are =
      let rows_of : Running K → Rows K = λ r. r.rows in
      plan_made workers some entries opened_on.rows journal lines opened answers accepted
      (entries_are ∙ ap (λ ls. made_entries cmp matching (map plain_line ls) begun.rows) slice_is ∙ ap (λ r. made_entries cmp matching makings_of (rows_of r)) begun_is)
      (ap rows_of opened_is ∙ ap (λ ls. rows_made cmp matching (map plain_line ls) begun.rows) slice_is ∙ ap (λ r. rows_made cmp matching makings_of (rows_of r)) begun_is)
      made opened_are
      (are ∙ ap (λ ls. map answered opened ++ with_lines ls (map (λ (e : JournalEntry K). plain_outcome e.outcome) journal)) same)

  abbrev refused_by : Refusal → List (Line K) → List (Numbered K) → List (ℕ × PlainEntry K)
  refused_by r ms cs = numbered_from 1 (Err r ∷ (map (λ m. Err refusal.UnknownGateway) ms ++ map (λ c. Err refusal.UnknownFace) cs))

  pub plan_stopped : {V E : Type 0} (workers : ℕ) (result : Result V E) (items : V → List (Answer K)) (r : Refusal) (error : CallError) (makings : List (Line K)) (calls : List (Numbered K))
      → option_map Refused (first_cause (line_causes cmp matching false (line_of plan.gateway) empty_fabric)) ≡ Some error → error ≡ Refused r
      → makings ≡ plan.makings.items → calls ≡ plan.calls.items
      → IfOk result (λ v. map answered (items v) ≡ numbered_from 1 (Err r ∷ (map (λ m. Err refusal.UnknownGateway) makings ++ map (λ c. Err refusal.UnknownFace) calls)))
      → IfOk result (λ v. CarriesOut cmp matching workers (plan_lines plan) (map answered (items v)))
  plan_stopped workers result items r error makings calls caused is ms cs =
      IfOk-weaker result _ _
      (λ v are.
      plan_refused workers r (items v) (cause_of (first_cause (line_causes cmp matching false (line_of plan.gateway) empty_fabric)) r error caused is)
      (are ∙ ap (λ (xs : List (Line K)). refused_by r xs calls) ms ∙ ap (λ (xs : List (Numbered K)). refused_by r plan.makings.items xs) cs))

-- ---- what the steps ask

module _ {K : Type 0} (plan : Plan K) where
  pub plan_first : (slice : List (Line K)) → slice ≡ plan.makings.items → Each HasFirstIds (plan_lines plan) → Each HasFirstIds (map plain_line slice)
  plan_first slice is first =
      subst (λ (ls : List (Line K)). Each HasFirstIds (map plain_line ls)) (sym is) (each_front HasFirstIds (map plain_line plan.makings.items) (map (λ c. Speak c) (map call_of plan.calls.items)) first.1)

  pub few_makings : (cmp : K → K → Ordering) (matching : K → K → Bool) (entries : List (Entry K)) (slice : List (Line K)) (rows : Rows K) (most : ℕ) → slice ≡ plan.makings.items
      → map plain_entry entries ≡ made_entries cmp matching (map plain_line slice) rows → length (plan_lines plan) < most → length entries < most
  few_makings cmp matching entries slice rows most is are few =
      let ms = map plain_line plan.makings.items in
      let cs = map (λ (c : PlainCall K). Speak c) (map call_of plan.calls.items) in
      let long : length entries ≡ length ms =
      sym (length-map entries plain_entry) ∙ ap length are ∙ as_many_entries cmp matching (map plain_line slice) rows ∙ ap (λ (ls : List (Line K)). length (map plain_line ls)) is
      in
      let all : length (ms ++ cs) ≡ length ms + length cs = length-append ms cs in
      let less : suc (length (ms ++ cs)) < most = few in
      omega arith
