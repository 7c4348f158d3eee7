-- The answers of a whole script and of a monitor.
use Rattle.std.proofs.Common.{◌≡◌, ◌⊎◌, inl, inr, ℕ, zero, suc, ◌+◌, ◌<◌, ◌≤◌, Bool, true, false, ◌==◌, List, [], ◌∷◌, ◌++◌, length, map, filter, Option, Some, None, is_none, option_map, Result, Ok, Err, refl, sym, ap, ◌∙◌, subst, arith}
use Rattle.std.specs.Cmp.{IsTotalOrder}
use Rattle.std.specs.declared.cmp.Ordering.{Ordering}
use Rattle.zt_protocol.specs.Plain.{NewSession, PlainCall, PlainEntry, PlainLine, Session, Speak, plain_entry, plain_line}
use Rattle.zt_protocol.specs.declared.entries.Entry.{Entry}
use Rattle.zt_protocol.specs.declared.errors.CallError.{CallError}
use Rattle.zt_protocol.specs.declared.errors.CallError.TheVariants.{Refused}
use Rattle.zt_protocol.specs.declared.errors.Refusal.{Refusal}
use Rattle.zt_protocol.specs.declared.errors.Refusal.TheVariants as refusal
use Rattle.zt_protocol.specs.declared.lines.Line.{Line}
use Rattle.zt_model.specs.Fabric.{empty_fabric, line_causes}
use Rattle.zt_model.specs.Journal.{IsReplay, Journalled, is_making}
use Rattle.zt_model.specs.Refusals.{first_cause}
use Rattle.zt_model.specs.Rows.{Rows}
use Rattle.zt_model.specs.Transcript.{Each}
use Rattle.zt_laws.specs.Sound.{HasFirstIds}
use Rattle.zt_laws.proofs.Lists.{each_both, each_front, each_weaker, map-map, never}
use Rattle.zt_theorem_transcript.specs.Named.{HasNamedOptions}
use Rattle.zt_gateway.specs.Running.{Running}
use Rattle.zt_gateway.specs.Settings.{line_of, new_gateway}
use Rattle.zt_theorem_journal.specs.Alone.{Speaks, SpeaksOrOpens, line_of_call, made_entries, rows_made}
use Rattle.zt_theorem_journal.specs.Dealt.{numbered_from}
use Rattle.zt_theorem_journal.proofs.Order.{each_of_map}
use Rattle.zt_theorem_watch.specs.Beside.{IsDealtBeside, Monitors, MonitorsNothing, answers_beside, order_beside}
use Rattle.zt_theorem_watch.specs.Tables.{PlainPoll}
use Rattle.zt_theorem_watch.specs.Watched.{asks_from, makes_gateway}
use Rattle.zt_theorem_watch.proofs.Beside.{asks_speak, each_line, may_speak, speaking_line}
use Rattle.zt_theorem_watch.proofs.Polled.{are_watched, unwatched, unwatched_order, watched_order}
use Rattle.zt_shared.specs.Recorded.{journalled, plain_outcome}
use Rattle.zt_shared.specs.declared.entries.JournalEntry.{JournalEntry}
use Rattle.zt_plans.specs.Plans.{IsPlan, call_of, numbered, plan_lines}
use Rattle.zt_plans.specs.declared.plan.Numbered.{Numbered}
use Rattle.zt_plans.specs.declared.plan.Plan.{Plan}
use Rattle.zt_dealing.specs.Dealing.{IsMadeByPasses, with_lines}
use Rattle.zt_dealing.proofs.OrderLemmas.{all_seconds, lines_map}
use Rattle.zt_watchers.specs.Beside.{IsMadeBeside, dealt_beside}
use Rattle.zt_watchers.proofs.BesideLemmas.{ours, theirs}
use Rattle.zt_workers.specs.Answers.{CarriesOut as CarriesAlone, answered}
use Rattle.zt_workers.specs.declared.answering.Answer.{Answer}
use Rattle.zt_workers.proofs.CarryLemmas.{calls_behind, plan_stopped}
use Rattle.zt_workers.proofs.StartLemmas.{starts_alone}
use Rattle.zt_watch_tool.specs.Watching.{CarriesOut}

-- ---- the lines of a monitor

module _ {K : Type 0} where
  monitor_may : (cs asks : List (PlainCall K)) → cs ≡ NewSession 1 ∷ asks → Each Speaks asks → Each SpeaksOrOpens cs
  monitor_may cs asks are speak = subst (Each SpeaksOrOpens) (sym are) (omega arith, each_weaker Speaks SpeaksOrOpens may_speak asks speak)

  asks_have_first : (face id count : ℕ) (expr : Option K) → Each (λ c. HasFirstIds (line_of_call c)) (asks_from face id count expr)
  asks_have_first face id zero expr = tt
  asks_have_first face id (suc count) expr = (tt, asks_have_first face (id + 1) count expr)

  asks_are_named : (face id count : ℕ) (expr : Option K) → Each (λ c. HasNamedOptions (line_of_call c)) (asks_from face id count expr)
  asks_are_named face id zero expr = tt
  asks_are_named face id (suc count) expr = (omega arith, asks_are_named face (id + 1) count expr)

  -- what the monitor asks, whether or not its session was refused
  record AreMonitors (cs : List (PlainCall K)) : Type 0 where
    may : Each SpeaksOrOpens cs
    first : Each (λ c. HasFirstIds (line_of_call c)) cs
    named : Each (λ c. HasNamedOptions (line_of_call c)) cs

  session_alone : (cs : List (PlainCall K)) → cs ≡ NewSession 1 ∷ [] → AreMonitors cs
  session_alone cs are = record {
    may = subst (Each SpeaksOrOpens) (sym are) (omega arith, tt);
    first = subst (Each (λ c. HasFirstIds (line_of_call c))) (sym are) (omega arith, tt);
    named = subst (Each (λ c. HasNamedOptions (line_of_call c))) (sym are) (tt, tt);
  }

  session_and_asks : (cs : List (PlainCall K)) (face count : ℕ) (expr : Option K) → cs ≡ NewSession 1 ∷ asks_from face 1 count expr → AreMonitors cs
  session_and_asks cs face count expr are = record {
    may = monitor_may cs (asks_from face 1 count expr) are (asks_speak face 1 count expr);
    first = subst (Each (λ c. HasFirstIds (line_of_call c))) (sym are) (omega arith, asks_have_first face 1 count expr);
    named = subst (Each (λ c. HasNamedOptions (line_of_call c))) (sym are) (tt, asks_are_named face 1 count expr);
  }

  speaks_first : (c : PlainCall K) → Speaks c → HasFirstIds (line_of_call c)
  speaks_first c speaks = subst HasFirstIds (sym (speaking_line c speaks)) tt

  speaks_named : (c : PlainCall K) → Speaks c → HasNamedOptions (Speak c) → HasNamedOptions (line_of_call c)
  speaks_named c speaks named = subst HasNamedOptions (sym (speaking_line c speaks)) named

no_gateway : (cause : Option Refusal) (error : CallError) → option_map Refused cause ≡ Some error → is_none cause ≡ false
no_gateway None error caused = let none : None ≡ Some error = caused in cc
no_gateway (Some cause) error caused = refl

module _ {K : Type 0} (cmp : K → K → Ordering) (matching : K → K → Bool) where
  -- Where no gateway is made nobody watches.
  pub carried_unwatched : (workers : ℕ) (script : List (PlainLine K)) (count : ℕ) (expr : Option K) (answers : List (ℕ × PlainEntry K)) (polls : List (PlainPoll K)) → CarriesAlone cmp matching workers script answers → makes_gateway cmp matching script ≡ false → polls ≡ []
      → CarriesOut cmp matching workers script count expr answers polls
  carried_unwatched workers script count expr answers polls carries none unpolled =
      let order = carries.reorders.order in
      let watched = unwatched cmp matching script count expr order answers carries.reorders.reordered carries.reorders.numbers carries.reorders.are_the_machines none in
      let same = unwatched_order cmp matching script count expr order answers carries.reorders.reordered carries.reorders.numbers carries.reorders.are_the_machines none in
      subst (λ ps. CarriesOut cmp matching workers script count expr answers ps) (sym unpolled)
      (record {
        watched = watched;
        by_workers = λ made. never made none;
        first_ids = subst (λ (o : List (ℕ × PlainLine K)). Each HasFirstIds (map (λ x. x.1) o)) (sym same) carries.first_ids;
        named_options = subst (λ (o : List (ℕ × PlainLine K)). Each HasNamedOptions (map (λ x. x.1) o)) (sym same) carries.named_options;
      })

-- ---- plans

module _ {K : Type 0} (cmp : K → K → Ordering) (matching : K → K → Bool) (total : IsTotalOrder cmp) (plan : Plan K) (is : IsPlan plan) (first : Each HasFirstIds (plan_lines plan)) (named : Each HasNamedOptions (plan_lines plan)) (speak : Each Speaks (map call_of plan.calls.items)) where
  abbrev makings_of : List (PlainLine K)
  makings_of = map plain_line plan.makings.items

  abbrev spoken_of : List (PlainCall K)
  spoken_of = map call_of plan.calls.items

  abbrev fresh_rows : Rows K
  fresh_rows = (new_gateway {K = K} plan.gateway).rows

  -- The plan's gateway is refused.
  pub plan_unwatched : (workers count : ℕ) (expr : Option K) (answers : List (Answer K)) (polls : List (PlainPoll K)) (r : Refusal) (error : CallError) (makings : List (Line K)) (calls : List (Numbered K))
      → option_map Refused (first_cause (line_causes cmp matching false (line_of plan.gateway) empty_fabric)) ≡ Some error → error ≡ Refused r
      → makings ≡ plan.makings.items → calls ≡ plan.calls.items
      → map answered answers ≡ numbered_from 1 (Err r ∷ (map (λ m. Err refusal.UnknownGateway) makings ++ map (λ c. Err refusal.UnknownFace) calls))
      → polls ≡ [] → CarriesOut cmp matching workers (plan_lines plan) count expr (map answered answers) polls
  plan_unwatched workers count expr answers polls r error makings calls caused refused ms cs are none =
      carried_unwatched cmp matching workers (plan_lines plan) count expr (map answered answers) polls
      (let result : Result (List (Answer K)) Refusal = Ok answers in plan_stopped cmp matching total plan is first named speak workers result (λ v. v) r error makings calls caused refused ms cs are)
      (no_gateway (first_cause (line_causes cmp matching false (line_of plan.gateway) empty_fabric)) error caused) none

  -- The plan's gateway is made, and workers and a monitor have made the calls.
  module _ (workers : ℕ) (some : 0 < workers) (count : ℕ) (expr : Option K) (entries : List (Journalled K)) (lines : List ℕ) (polls : List (PlainPoll K))
      (made : IsMadeBeside cmp matching workers (numbered_from (2 + length makings_of) spoken_of) count expr (rows_made cmp matching makings_of fresh_rows) entries lines polls)
      (accepted : first_cause (line_causes cmp matching false (line_of plan.gateway) empty_fabric) ≡ None) where
    abbrev start : Rows K
    start = rows_made cmp matching makings_of fresh_rows

    abbrev lined : List (ℕ × Journalled K)
    lined = with_lines lines entries

    seconds_are : map (λ x. x.1) lined ≡ entries
    seconds_are = all_seconds lines entries made.made.long

    dealt : IsDealtBeside workers (2 + length makings_of) spoken_of made.monitor lined
    dealt = record {
      some = some;
      speak = speak;
      passes = made.made.passes;
      parts = λ p less. made.made.parts p (omega arith) ∙ theirs workers (numbered_from (2 + length makings_of) spoken_of) made.monitor p less;
      own = made.made.parts workers (omega arith) ∙ ours workers (numbered_from (2 + length makings_of) spoken_of) made.monitor;
    }

    monitors : AreMonitors made.monitor
    monitors = elim made.polled as (λ _. AreMonitors made.monitor) [
      | inl watches ↦ session_and_asks made.monitor watches.face count expr watches.calls_are
      | inr refused ↦ session_alone made.monitor refused.calls_are
    ]

    real : Each HasFirstIds makings_of
    real = each_front HasFirstIds makings_of (map (λ c. Speak c) spoken_of) first.1

    real_named : Each HasNamedOptions makings_of
    real_named = each_front HasNamedOptions makings_of (map (λ c. Speak c) spoken_of) named.1

    named_calls : Each (λ c. HasNamedOptions (Speak c)) spoken_of
    named_calls = each_of_map HasNamedOptions (λ (c : PlainCall K). Speak c) spoken_of (each_back HasNamedOptions makings_of (map (λ c. Speak c) spoken_of) named.1)
      where
        each_back : {A : Type 0} (P : A → Type 0) (xs ys : List A) → Each P (xs ++ ys) → Each P ys
        each_back P [] ys all = all
        each_back P (x ∷ xs) ys all = each_back P xs ys all.1

    replay : IsReplay cmp matching (map (λ x. x.1) lined) start
    replay = subst (λ es. IsReplay cmp matching es start) (sym seconds_are) made.made.replay

    polled : Monitors cmp matching workers start (map (λ x. x.1) lined) count expr made.monitor polls ⊎ MonitorsNothing cmp matching workers start (map (λ x. x.1) lined) made.monitor polls
    polled = subst (λ es. Monitors cmp matching workers start es count expr made.monitor polls ⊎ MonitorsNothing cmp matching workers start es made.monitor polls) (sym seconds_are) made.polled

    every_line : (P : PlainLine K → Type 0) → P (line_of plan.gateway) → Each P makings_of → Each (λ c. P (line_of_call c)) spoken_of → Each (λ c. P (line_of_call c)) made.monitor → Each P (map (λ x. x.1) (order_beside (line_of plan.gateway) makings_of lined))
    every_line P one makers theirs_ own = each_line workers (2 + length makings_of) spoken_of made.monitor lined dealt (line_of plan.gateway) makings_of P one makers theirs_ own

    pub carried_watched : CarriesOut cmp matching workers (plan_lines plan) count expr (answers_beside (made_entries cmp matching makings_of fresh_rows) lined) polls
    carried_watched =
        let s = plan.gateway in
        let watched = are_watched cmp matching total s.mode s.zid s.regions s.south s.name s.timeout s.refused makings_of workers spoken_of made.monitor lined dealt monitors.may accepted is.making real replay count expr polls polled in
        let same = watched_order cmp matching total s.mode s.zid s.regions s.south s.name s.timeout s.refused makings_of workers spoken_of made.monitor lined dealt monitors.may accepted is.making real replay count expr polls polled in
        record {
          watched = watched;
          by_workers = λ _. record {
            rows = start;
            starts = starts_alone cmp matching total plan.gateway makings_of spoken_of accepted is.making real;
            journal = entries;
            lines = lines;
            monitor = made.monitor;
            made =
                subst (λ (cs : List (ℕ × PlainCall K)). IsMadeByPasses cmp matching (workers + 1) (dealt_beside workers cs made.monitor) start entries lines)
                (sym (calls_behind 2 makings_of spoken_of is.making)) made.made;
            before = numbered_from 1 (Ok [] ∷ made_entries cmp matching makings_of fresh_rows);
            answers_are =
                ap (λ (xs : List (ℕ × PlainEntry K)). numbered_from 1 (Ok [] ∷ made_entries cmp matching makings_of fresh_rows) ++ xs)
                (sym (lines_map (λ (e : Journalled K). e.outcome) lines entries));
          };
          first_ids =
              subst (λ (o : List (ℕ × PlainLine K)). Each HasFirstIds (map (λ x. x.1) o)) (sym same)
              (every_line HasFirstIds first.0 real (each_weaker Speaks (λ c. HasFirstIds (line_of_call c)) speaks_first spoken_of speak) monitors.first);
          named_options =
              subst (λ (o : List (ℕ × PlainLine K)). Each HasNamedOptions (map (λ x. x.1) o)) (sym same)
              (every_line HasNamedOptions named.0 real_named (each_both Speaks (λ c. HasNamedOptions (Speak c)) (λ c. HasNamedOptions (line_of_call c)) speaks_named spoken_of speak named_calls) monitors.named);
        }

  pub plan_watched : (workers : ℕ) → 0 < workers → (count : ℕ) (expr : Option K) (slice : List (Line K)) (begun opened_on : Running K) (entries : List (Entry K)) (journal : List (JournalEntry K)) (lines slice_lines : List ℕ) (opened answers : List (Answer K)) (polls : List (PlainPoll K))
      → first_cause (line_causes cmp matching false (line_of plan.gateway) empty_fabric) ≡ None
      → slice ≡ plan.makings.items → begun ≡ new_gateway plan.gateway
      → map plain_entry entries ≡ made_entries cmp matching (map plain_line slice) begun.rows
      → opened_on ≡ record { rows = rows_made cmp matching (map plain_line slice) begun.rows; waiting = [] }
      → IsMadeBeside cmp matching workers (map numbered plan.calls.items) count expr opened_on.rows (map journalled journal) lines polls
      → map answered opened ≡ numbered_from 1 (Ok [] ∷ map plain_entry entries)
      → slice_lines ≡ lines
      → map answered answers ≡ map answered opened ++ with_lines slice_lines (map (λ e. plain_outcome e.outcome) journal)
      → CarriesOut cmp matching workers (plan_lines plan) count expr (map answered answers) polls
  plan_watched workers some count expr slice begun opened_on entries journal lines slice_lines opened answers polls accepted slice_is begun_is entries_are opened_is made opened_are same are =
      let rows_of : Running K → Rows K = λ r. r.rows in
      let entries_ : map plain_entry entries ≡ made_entries cmp matching makings_of fresh_rows = entries_are ∙ ap (λ ls. made_entries cmp matching (map plain_line ls) begun.rows) slice_is ∙ ap (λ r. made_entries cmp matching makings_of (rows_of r)) begun_is in
      let rows_ : opened_on.rows ≡ rows_made cmp matching makings_of fresh_rows = ap rows_of opened_is ∙ ap (λ ls. rows_made cmp matching (map plain_line ls) begun.rows) slice_is ∙ ap (λ r. rows_made cmp matching makings_of (rows_of r)) begun_is in
      let made_ =
      subst (λ (rs : Rows K). IsMadeBeside cmp matching workers (numbered_from (2 + length makings_of) spoken_of) count expr rs (map journalled journal) lines polls) rows_
      (subst (λ (cs : List (ℕ × PlainCall K)). IsMadeBeside cmp matching workers cs count expr opened_on.rows (map journalled journal) lines polls) is.numbers made)
      in
      let outcomes : map (λ (e : JournalEntry K). plain_outcome e.outcome) journal ≡ map (λ (e : Journalled K). e.outcome) (map journalled journal) = sym (map-map (λ (e : Journalled K). e.outcome) journalled journal) in
      subst (λ (found : List (ℕ × PlainEntry K)). CarriesOut cmp matching workers (plan_lines plan) count expr found polls)
      (sym
      (are ∙ ap (λ ls. map answered opened ++ with_lines ls (map (λ (e : JournalEntry K). plain_outcome e.outcome) journal)) same
      ∙ ap (λ os. map answered opened ++ with_lines lines os) outcomes
      ∙ ap (λ xs. map answered opened ++ xs) (lines_map (λ (e : Journalled K). e.outcome) lines (map journalled journal))
      ∙ ap (λ xs. xs ++ map (λ (x : ℕ × Journalled K). (x.0, x.1.outcome)) (with_lines lines (map journalled journal))) (opened_are ∙ ap (λ es. numbered_from 1 (Ok [] ∷ es)) entries_)))
      (carried_watched workers some count expr (map journalled journal) lines polls made_ accepted)
