-- A monitor beside workers, in the transcript of a whole script.
use Rattle.std.proofs.Common.{◌≡◌, ◌⊎◌, inl, inr, ℕ, zero, suc, ◌+◌, ◌≤◌, Bool, true, false, not, ◌==◌, List, [], ◌∷◌, ◌++◌, length, map, filter, slice_get, Option, Some, None, is_some, is_none, Result, Ok, Err, refl, sym, ap, ◌∙◌, subst, arith, eqb-true, eq-eqb, ne_eqb, append-nil}
use Rattle.std.proofs.lemmas.List.Elements.{filter-append}
use Rattle.std.proofs.lemmas.List.{length-map}
use Rattle.std.specs.Cmp.{IsTotalOrder}
use Rattle.std.specs.declared.cmp.Ordering.{Ordering}
use Rattle.zt_region.specs.declared.region.Region.{Region}
use Rattle.zt_region.specs.declared.region.WhatAmI.{WhatAmI}
use Rattle.zt_region.specs.declared.region.Zid.{Zid}
use Rattle.zt_region.specs.South.{PlainSouth}
use Rattle.zt_protocol.specs.Plain.{PlainCall, NewSession, PlainEntry, PlainLine, Gateway, Session, Face as FaceLine, Link, Unlink, Step, Speak, Moment, SetTreesAt}
use Rattle.zt_protocol.specs.declared.entries.Sent.{Sent}
use Rattle.zt_protocol.specs.declared.errors.Refusal.{Refusal}
use Rattle.zt_model.specs.Fabric.{Fabric, line_causes, empty_fabric, entries_from, entry_by, new_rows}
use Rattle.zt_model.specs.Journal.{IsReordered, IsReplay, Journalled, cause_of, face_of_call, is_making, is_speaking, made_by, outcome_of, starts_none}
use Rattle.zt_model.specs.Refusals.{first_cause}
use Rattle.zt_model.specs.Rows.{Rows}
use Rattle.zt_model.specs.Transcript.{Each}
use Rattle.zt_laws.specs.Sound.{HasFirstIds}
use Rattle.zt_laws.proofs.Lists.{each_map, each_weaker, filter_all, map-append, map-map, never}
use Rattle.zt_theorem_journal.specs.Alone.{IsAlone, Speaks, SpeaksOrOpens, line_of_call, made_entries, made_rows}
use Rattle.zt_theorem_journal.specs.Asked.{AreVisible, rows_before, token_ask}
use Rattle.zt_theorem_journal.specs.Dealt.{numbered_from, script_of}
use Rattle.zt_theorem_journal.proofs.Asked.{replayed_at}
use Rattle.zt_theorem_journal.proofs.Order.{map_second}
use Rattle.zt_theorem_journal.proofs.Replay.{script_comes_with_sessions}
use Rattle.zt_theorem_watch.specs.Beside.{ArePolled, IsDealtBeside, IsPolled, Monitors, MonitorsNothing, answers_beside, order_beside}
use Rattle.zt_theorem_watch.specs.Tables.{PlainPoll, table_after}
use Rattle.zt_theorem_watch.specs.Watched.{Agrees, ArePolls, AreWatched, HasMonitor, IsPoll, SeesAlone, Watches, WatchesNothing, asks_from, fabric_at, makes_gateway, of_monitor, of_script, opening_lines}
use Rattle.zt_theorem_watch.proofs.Beside.{ask_lines, asks_speak, each_call, may_speak, order_is_of, order_monitor, script_reordered, with_line, zero_own}
use Rattle.zt_theorem_watch.proofs.Lists.{each_got, filter_none, get_map, get_past, got_of_map, numbered_above, numbered_long}
use Rattle.zt_theorem_watch.proofs.Machine.{alone_before, line, rows}

pub agrees_weaker : {K : Type 0} (P Q : Type 0) → (P → Q) → (entry : PlainEntry K) (found : Result (List K × List K) Refusal) → Agrees P entry found → Agrees Q entry found
agrees_weaker P Q f (Ok sent) (Ok keys) agrees = f agrees
agrees_weaker P Q f (Ok sent) (Err other) agrees = agrees
agrees_weaker P Q f (Err one) (Ok keys) agrees = agrees
agrees_weaker P Q f (Err one) (Err other) agrees = agrees

-- numbers alone
firsts_alike : {A B : Type 0} (n : ℕ) (xs : List A) (ys : List B) → length xs ≡ length ys → map (λ x. x.0) (numbered_from n xs) ≡ map (λ y. y.0) (numbered_from n ys)
firsts_alike n [] [] same = refl
firsts_alike n [] (y ∷ ys) same = absurd (omega arith)
firsts_alike n (x ∷ xs) [] same = absurd (omega arith)
firsts_alike n (x ∷ xs) (y ∷ ys) same = ap (λ ns. n ∷ ns) (firsts_alike (n + 1) xs ys (omega arith))

silent : {K : Type 0} (l : PlainLine K) → is_making l ≡ true → is_speaking l ≡ false
silent (Gateway mode zid regions south name timeout refused) making = never making refl
silent (Session gateway first) making = refl
silent (FaceLine gateway mode zid region bound first) making = refl
silent (Link one two first back) making = never making refl
silent (Unlink link) making = never making refl
silent (Step link back) making = never making refl
silent (Speak call) making = never making refl
silent (Moment gateway now) making = never making refl
silent (SetTreesAt gateway region table) making = never making refl

all_speak : {K : Type 0} (cs : List (PlainCall K)) → Each (λ (l : PlainLine K). not (is_speaking l) ≡ false) (map (λ c. Speak c) cs)
all_speak [] = tt
all_speak (c ∷ cs) = (refl, all_speak cs)

module _ {K : Type 0} (cmp : K → K → Ordering) (matching : K → K → Bool) where
  -- an opened session has the next number of a face
  session_opened : (g : Rows K) (face : ℕ) → made_by cmp matching (NewSession 1) g ≡ Some face → (face ≡ g.made + 1) × Agrees (Unit {0}) (outcome_of cmp matching (NewSession 1) g) (Ok ([], []))
  unfolding made_by outcome_of
  session_opened g face made = let both = cases (cause_of cmp matching (NewSession 1) g) made in (both.0, both.1 _)
    where
      cases : (o : Option Refusal) → (let face_then : Option ℕ = elim o [ None ↦ face_of_call {K = K} (NewSession 1) g | Some refusal ↦ None ] in face_then) ≡ Some face
          → (face ≡ g.made + 1) × ((ms : List (Sent K)) → Agrees (Unit {0}) (entry_by cmp matching o ms) (Ok ([], [])))
      cases None is = (cc, λ ms. tt)
      cases (Some r) is = cc

  as_many_made : (lines : List (PlainLine K)) (g : Rows K) → length (made_entries cmp matching lines g) ≡ length lines
  unfolding made_entries
  as_many_made [] g = refl
  as_many_made (l ∷ lines) g = ap suc (as_many_made lines (made_rows cmp matching l g))

  -- ---- no gateway is made

  numbers_from_one : {A : Type 0} (xs : List A) → (of_monitor (numbered_from 1 xs) ≡ []) × (of_script (numbered_from 1 xs) ≡ numbered_from 1 xs)
  numbers_from_one xs =
      let above = numbered_above 1 1 xs (omega arith) in
      let apart = each_weaker (λ x. 1 ≤ x.0) (λ x. (x.0 == 0) ≡ false) (λ x h. ne_eqb x.0 0 (omega arith)) (numbered_from 1 xs) above in (
        filter_none (λ x. x.0 == 0) (numbered_from 1 xs) apart,
        filter_all (λ x. not (x.0 == 0)) (numbered_from 1 xs) (each_weaker (λ x. (x.0 == 0) ≡ false) (λ x. not (x.0 == 0) ≡ true) (λ x h. ap not h) (numbered_from 1 xs) apart),
      )

  as_it_stood : (script : List (PlainLine K)) (order : List (ℕ × PlainLine K)) → IsReordered cmp matching (numbered_from 1 script) order → makes_gateway cmp matching script ≡ false → order ≡ numbered_from 1 script
  as_it_stood [] [] is none = refl
  as_it_stood [] (x ∷ order) is none = let long = is.same_length in absurd (omega arith)
  as_it_stood (l ∷ script) order is none = is.unstarted (some_of (first_cause (line_causes cmp matching false l empty_fabric)) none)
    where
      some_of : (o : Option Refusal) → is_none o ≡ false → is_some o ≡ true
      some_of None h = never refl h
      some_of (Some r) h = refl

  -- Nobody watches then.
  pub unwatched : (script : List (PlainLine K)) (count : ℕ) (expr : Option K) (order : List (ℕ × PlainLine K)) (answers : List (ℕ × PlainEntry K)) → IsReordered cmp matching (numbered_from 1 script) order
      → map (λ x. x.0) answers ≡ map (λ x. x.0) order → map (λ x. x.1) answers ≡ entries_from cmp matching (map (λ x. x.1) order) empty_fabric → makes_gateway cmp matching script ≡ false
      → AreWatched cmp matching script count expr answers []
  unwatched script count expr order answers reordered numbers machines none =
      let is : order ≡ numbered_from 1 script = as_it_stood script order reordered none in
      let own = numbers_from_one script in
      let own_ : of_monitor order ≡ [] = ap of_monitor is ∙ own.0 in
      let theirs : of_script order ≡ order = ap of_script is ∙ own.1 ∙ sym is in
      record {
        order = order;
        reordered = subst (IsReordered cmp matching (numbered_from 1 script)) (sym theirs) reordered;
        numbers = numbers;
        are_the_machines = machines;
        monitor = subst (λ b. HasMonitor cmp matching count expr (opening_lines script) order answers [] b) (sym none) (own_, refl);
      }

  pub unwatched_order : (script : List (PlainLine K)) (count : ℕ) (expr : Option K) (order : List (ℕ × PlainLine K)) (answers : List (ℕ × PlainEntry K)) (reordered : IsReordered cmp matching (numbered_from 1 script) order)
      (numbers : map (λ x. x.0) answers ≡ map (λ x. x.0) order) (machines : map (λ x. x.1) answers ≡ entries_from cmp matching (map (λ x. x.1) order) empty_fabric) (none : makes_gateway cmp matching script ≡ false)
      → (unwatched script count expr order answers reordered numbers machines none).order ≡ order
  unfolding unwatched
  unwatched_order script count expr order answers reordered numbers machines none = refl

  -- ---- the gateway is made

  module _ (total : IsTotalOrder cmp) (mode : WhatAmI) (zid : Zid) (regions : List Region) (south : PlainSouth) (name : Option (List ℕ)) (timeout : ℕ) (refused : List (Region × Region)) (makings : List (PlainLine K))
      (workers : ℕ) (calls monitor : List (PlainCall K)) (journal : List (ℕ × Journalled K)) (dealt : IsDealtBeside workers (2 + length makings) calls monitor journal) (may : Each SpeaksOrOpens monitor)
      (accepted : first_cause (line_causes cmp matching false (line cmp matching total mode zid regions south name timeout refused makings) empty_fabric) ≡ None)
      (making : Each (λ m. is_making m ≡ true) makings) (real : Each HasFirstIds makings) where
    abbrev first_line : PlainLine K
    first_line = Gateway mode zid regions south name timeout refused

    abbrev start : Rows K
    start = rows cmp matching total mode zid regions south name timeout refused makings

    abbrev entries : List (Journalled K)
    entries = map (λ x. x.1) journal

    abbrev made : List (PlainEntry K)
    made = made_entries cmp matching makings (new_rows mode zid regions timeout refused)

    abbrev order : List (ℕ × PlainLine K)
    order = order_beside first_line makings journal

    abbrev answers : List (ℕ × PlainEntry K)
    answers = answers_beside made journal

    abbrev opened : ℕ
    opened = 1 + length makings

    all_may : Each (λ e. SpeaksOrOpens e.call) entries
    all_may =
        each_map (λ (e : Journalled K). SpeaksOrOpens e.call) (λ (x : ℕ × Journalled K). x.1) journal
        (each_call workers (2 + length makings) calls monitor journal dealt (λ n c. SpeaksOrOpens c) (λ n. each_weaker Speaks SpeaksOrOpens may_speak calls dealt.speak) may)

    alone_at : (place : ℕ) → IsAlone cmp matching (rows_before cmp matching place entries start) (fabric_at cmp matching (opened + place) order)
    alone_at place = alone_before cmp matching total mode zid regions south name timeout refused makings accepted making real journal all_may place

    -- an entry of the monitor has the number 0
    own_number : (place : ℕ) (entry : Journalled K) → slice_get entries place ≡ Some entry → entry.pass ≡ workers → slice_get journal place ≡ Some (0, entry)
    own_number place entry at by =
        let got = got_of_map (λ (x : ℕ × Journalled K). x.1) journal place entry at in
        let x = got.0 in
        let same = each_got (λ x. (x.0 == 0) ≡ (x.1.pass == workers)) journal place x (zero_own workers (2 + length makings) calls monitor journal dealt (omega arith)) got.1 in
        let by_ : x.1.pass ≡ workers = ap (λ (e : Journalled K). e.pass) got.2 ∙ by in
        let zero_ : x.0 ≡ 0 = eqb-true x.0 0 (same ∙ eq-eqb x.1.pass workers by_) in
        let one : Some x ≡ Some (0, x.1) = ap (λ k. Some (k, x.1)) zero_ in
        let two : Some (0, x.1) ≡ Some (0, entry) = ap (λ e. Some (0, e)) got.2 in
        got.1 ∙ one ∙ two

    line_at : (place : ℕ) (entry : Journalled K) → slice_get journal place ≡ Some (0, entry) → slice_get order (opened + place) ≡ Some (0, line_of_call entry.call)
    line_at place entry at =
        get_past ((1, first_line) ∷ numbered_from 2 makings) (map with_line journal) (opened + place) place (let long = numbered_long 2 makings in omega arith)
        ∙ get_map with_line journal place (0, entry) at

    answer_at : (place : ℕ) (entry : Journalled K) → slice_get journal place ≡ Some (0, entry) → slice_get answers (opened + place) ≡ Some (0, entry.outcome)
    answer_at place entry at =
        get_past (numbered_from 1 (Ok [] ∷ made)) (map (λ (x : ℕ × Journalled K). (x.0, x.1.outcome)) journal) (opened + place) place
        (let long = numbered_long 2 made in let many = as_many_made makings (new_rows mode zid regions timeout refused) in omega arith)
        ∙ get_map (λ (x : ℕ × Journalled K). (x.0, x.1.outcome)) journal place (0, entry) at

    -- ---- polls

    poll_printed : (face : ℕ) (expr : Option K) (number : ℕ) (table : List K) (poll : PlainPoll K) → IsPolled cmp matching workers start entries face expr number table poll
        → IsPoll cmp matching opened order answers face expr number table poll
    poll_printed face expr number table poll is =
        let at = own_number poll.place is.entry is.there is.by in
        let alone = alone_at poll.place in
        record {
          asks = line_at poll.place is.entry at ∙ ap (λ (c : PlainCall K). Some (0, line_of_call c)) is.is_of;
          entry = is.entry.outcome;
          answered = answer_at poll.place is.entry at;
          agrees =
              agrees_weaker (AreVisible cmp matching face expr (rows_before cmp matching poll.place entries start) table) (SeesAlone cmp matching (fabric_at cmp matching (opened + poll.place) order) face expr table)
              (λ visible. record { node = alone.node; alone = alone.gateways; visible = subst (λ g. AreVisible cmp matching face expr g table) (sym alone.rows) visible })
              is.entry.outcome poll.outcome is.agrees;
        }

    polls_printed : (face : ℕ) (expr : Option K) (number : ℕ) (table : List K) (polls : List (PlainPoll K)) → ArePolled cmp matching workers start entries face expr number table polls
        → ArePolls cmp matching opened order answers face expr number table polls
    polls_printed face expr number table [] are = tt
    polls_printed face expr number table (poll ∷ polls) are =
        (poll_printed face expr number (table_after cmp poll table) poll are.0, polls_printed face expr (number + 1) (table_after cmp poll table) polls are.1)

    module _ (replay : IsReplay cmp matching entries start) (count : ℕ) (expr : Option K) (polls : List (PlainPoll K)) where
      watches : Monitors cmp matching workers start entries count expr monitor polls → Watches cmp matching count expr opened order answers polls
      watches is =
          let at = own_number is.place is.entry is.there is.by in
          let came = replayed_at cmp matching is.place entries start is.entry replay is.there in
          let before = rows_before cmp matching is.place entries start in
          let session = session_opened before is.face (ap (λ c. made_by cmp matching c before) (sym is.is_of) ∙ sym came.0 ∙ is.made) in
          let alone = alone_at is.place in
          record {
            place = is.place;
            opens = line_at is.place is.entry at ∙ ap (λ (c : PlainCall K). Some (0, line_of_call c)) is.is_of;
            entry = is.entry.outcome;
            answered = answer_at is.place is.entry at;
            accepted = subst (λ o. Agrees (Unit {0}) o (Ok ([], []))) (sym (came.1 ∙ ap (λ c. outcome_of cmp matching c before) is.is_of)) session.1;
            face = is.face;
            face_is = session.0 ∙ ap (λ n. n + 1) (sym alone.made);
            lines =
                order_monitor workers (2 + length makings) calls monitor journal dealt first_line makings (omega arith)
                ∙ ap (map (λ (c : PlainCall K). (0, line_of_call c))) is.calls_are
                ∙ ap (λ ls. (0, Session 1 1) ∷ ls) (ask_lines is.face 1 count expr);
            many = is.many;
            each = polls_printed is.face expr 1 [] polls is.each;
          }

      watches_nothing : MonitorsNothing cmp matching workers start entries monitor polls → WatchesNothing cmp matching count expr opened order answers polls
      watches_nothing is =
          let at = own_number is.place is.entry is.there is.by in
          record {
            place = is.place;
            refusal = is.refusal;
            answered = answer_at is.place is.entry at ∙ ap (λ o. Some (0, o)) is.refused;
            lines =
                order_monitor workers (2 + length makings) calls monitor journal dealt first_line makings (omega arith)
                ∙ ap (map (λ (c : PlainCall K). (0, line_of_call c))) is.calls_are;
            none_polled = is.none_polled;
          }

      opening_is : opening_lines (script_of first_line makings calls) ≡ opened
      opening_is =
          let quiet : PlainLine K → Bool = λ l. not (is_speaking l) in
          ap (λ ls. suc (length ls))
          (filter-append (λ (l : PlainLine K). not (is_speaking l)) makings (map (λ c. Speak c) calls)
          ∙ ap (λ ls. ls ++ filter (λ (l : PlainLine K). not (is_speaking l)) (map (λ c. Speak c) calls)) (filter_all (λ (l : PlainLine K). not (is_speaking l)) makings (each_weaker (λ m. is_making m ≡ true) (λ (l : PlainLine K). not (is_speaking l) ≡ true) (λ m h. ap not (silent m h)) makings making))
          ∙ ap (λ ls. makings ++ ls) (filter_none (λ (l : PlainLine K). not (is_speaking l)) (map (λ c. Speak c) calls) (all_speak calls))
          ∙ append-nil makings)
          ∙ omega arith

      -- The transcript of the script with the monitor's lines between, and its polls.
      pub are_watched : Monitors cmp matching workers start entries count expr monitor polls ⊎ MonitorsNothing cmp matching workers start entries monitor polls
          → AreWatched cmp matching (script_of first_line makings calls) count expr answers polls
      are_watched monitors = record {
        order = order;
        reordered = script_reordered workers (2 + length makings) calls monitor journal dealt first_line makings cmp matching refl (λ more. refl) making (ap is_some accepted);
        numbers =
            map-append (λ (x : ℕ × PlainEntry K). x.0) (numbered_from 1 (Ok [] ∷ made)) (map (λ (x : ℕ × Journalled K). (x.0, x.1.outcome)) journal)
            ∙ ap (λ ns. (1 ∷ ns) ++ map (λ (x : ℕ × PlainEntry K). x.0) (map (λ (x : ℕ × Journalled K). (x.0, x.1.outcome)) journal)) (firsts_alike 2 made makings (as_many_made makings (new_rows mode zid regions timeout refused)))
            ∙ ap (λ ns. (1 ∷ map (λ (x : ℕ × PlainLine K). x.0) (numbered_from 2 makings)) ++ ns) (map-map (λ (x : ℕ × PlainEntry K). x.0) (λ (x : ℕ × Journalled K). (x.0, x.1.outcome)) journal ∙ sym (map-map (λ (x : ℕ × PlainLine K). x.0) with_line journal))
            ∙ ap (λ ns. 1 ∷ ns) (sym (map-append (λ (x : ℕ × PlainLine K). x.0) (numbered_from 2 makings) (map with_line journal)));
        are_the_machines =
            map-append (λ (x : ℕ × PlainEntry K). x.1) (numbered_from 1 (Ok [] ∷ made)) (map (λ (x : ℕ × Journalled K). (x.0, x.1.outcome)) journal)
            ∙ ap (λ es. es ++ map (λ (x : ℕ × PlainEntry K). x.1) (map (λ (x : ℕ × Journalled K). (x.0, x.1.outcome)) journal)) (map_second 1 (Ok [] ∷ made))
            ∙ ap (λ es. (Ok [] ∷ made) ++ es) (map-map (λ (x : ℕ × PlainEntry K). x.1) (λ (x : ℕ × Journalled K). (x.0, x.1.outcome)) journal ∙ sym (map-map (λ (e : Journalled K). e.outcome) (λ (x : ℕ × Journalled K). x.1) journal))
            ∙ sym (ap (λ ls. entries_from cmp matching ls empty_fabric) (order_is_of first_line makings journal)
            ∙ script_comes_with_sessions cmp matching total mode zid regions south name timeout refused makings entries accepted making real all_may replay);
        monitor =
            subst (λ b. HasMonitor cmp matching count expr (opening_lines (script_of first_line makings calls)) order answers polls b) (sym (ap is_none accepted))
            (subst (λ n. Watches cmp matching count expr n order answers polls ⊎ WatchesNothing cmp matching count expr n order answers polls) (sym opening_is) (both monitors));
      }
        where
          both : Monitors cmp matching workers start entries count expr monitor polls ⊎ MonitorsNothing cmp matching workers start entries monitor polls
              → Watches cmp matching count expr opened order answers polls ⊎ WatchesNothing cmp matching count expr opened order answers polls
          both (inl is) = inl (watches is)
          both (inr is) = inr (watches_nothing is)

      -- its order is that of the journal
      pub watched_order : (monitors : Monitors cmp matching workers start entries count expr monitor polls ⊎ MonitorsNothing cmp matching workers start entries monitor polls) → (are_watched monitors).order ≡ order
      unfolding are_watched
      watched_order monitors = refl
