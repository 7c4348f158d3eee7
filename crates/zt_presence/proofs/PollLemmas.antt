-- What a pass that asked reads back, and what a poll comes to by that.
use Rattle.std.proofs.Common.{◌≡◌, ℕ, zero, suc, ◌+◌, ◌<◌, ◌≤◌, Bool, not, List, [], ◌∷◌, ◌++◌, length, slice_get, Option, Some, None, option_map, Result, Ok, Err, refl, sym, ap, ◌∙◌, subst, arith}
use Rattle.std.specs.Cmp.{IsTotalOrder}
use Rattle.std.specs.declared.cmp.Ordering.{Ordering}
use mathlib.Core.List.{IsPrefix}
use Rattle.zt_protocol.specs.Plain.{NewSession, PlainCall, PlainEntry}
use Rattle.zt_protocol.specs.declared.entries.Sent.{Sent}
use Rattle.zt_protocol.specs.declared.errors.Refusal.{Refusal}
use Rattle.zt_model.specs.Journal.{Journalled, made_by, outcome_of}
use Rattle.zt_model.specs.Lists.{is_among}
use Rattle.zt_laws.proofs.Keys.{in_order_filter}
use Rattle.zt_shared_value.specs.Owned.{owned}
use Rattle.zt_shared_value.specs.Passes.{Adds, Standing, mine}
use Rattle.zt_shared.specs.Recorded.{Recorded}
use Rattle.zt_shared.specs.Sharing.{Enters, HasRead, HasReplay, answered, entries_of, pass_of}
use Rattle.zt_shared.specs.declared.entries.Receipt.{Receipt}
use Rattle.zt_theorem_journal.specs.Asked.{AreVisible, answers_to}
use Rattle.zt_theorem_journal.proofs.Asked.{replayed_at, session_made, visible_found, visible_in_order}
use Rattle.zt_presence.specs.Polling.{Finds, HasAsked, Makes, MakesAndReads, Polls, outcome_at, rows_at}
use Rattle.zt_presence.specs.Presence.{IsTable, Presence, beyond, next_ask, polled}
use Rattle.zt_presence.specs.declared.tables.Change.{Change}

-- ---- places of lists

get_front : {A : Type 0} (xs rest : List A) (i : ℕ) (x : A) → slice_get xs i ≡ Some x → slice_get (xs ++ rest) i ≡ Some x
get_front [] rest i x at = cc
get_front (y ∷ xs) rest zero x at = at
get_front (y ∷ xs) rest (suc i) x at = get_front xs rest i x at

get_longer : {A : Type 0} (xs ys : List A) (i : ℕ) (x : A) → IsPrefix xs ys → slice_get xs i ≡ Some x → slice_get ys i ≡ Some x
get_longer xs ys i x begins at = subst (λ zs. slice_get zs i ≡ Some x) begins.1 (get_front xs begins.0 i x at)

get_behind : {A : Type 0} (xs : List A) (x : A) → slice_get (xs ++ x ∷ []) (length xs) ≡ Some x
get_behind [] x = refl
get_behind (y ∷ xs) x = get_behind xs x

module _ {K : Type 0} (cmp : K → K → Ordering) (matching : K → K → Bool) where
  -- ---- an entry that was added

  -- it stands at its place
  pub stands_there : (before after : Standing (Recorded K)) (place : ℕ) (entry : Journalled K) → Adds entries_of pass_of before after place entry → slice_get after.found.entries place ≡ Some entry
  stands_there before after place entry adds =
      subst (λ (es : List (Journalled K)). slice_get es place ≡ Some entry) (sym adds.added)
      (subst (λ n. slice_get (adds.found.entries ++ entry ∷ []) n ≡ Some entry) (sym adds.placed) (get_behind adds.found.entries entry))

  pub makes_of : (call : PlainCall K) (receipt : Receipt) (before after : Standing (Recorded K)) (enters : Enters cmp matching call receipt before after) → Makes cmp matching call before after receipt.place enters.entry
  makes_of call receipt before after enters = record { adds = enters.adds; by = enters.by; is_of = enters.is_of; replay = enters.replay }

  -- what it came to is what its call comes to where it stands
  came_to : (before after : Standing (Recorded K)) (place : ℕ) (entry : Journalled K) → Adds entries_of pass_of before after place entry → HasReplay cmp matching after
      → (let rows = rows_at cmp matching place after in
      (entry.made ≡ made_by cmp matching entry.call rows) × (entry.outcome ≡ outcome_of cmp matching entry.call rows))
  came_to before after place entry adds replay = replayed_at cmp matching place after.found.entries after.opening.opening.rows entry replay (stands_there before after place entry adds)

  -- ---- an ask that was accepted

  module _ (face id : ℕ) (expr : Option K) (place : ℕ) (before after : Standing (Recorded K)) where
    -- it stands there still when the pass has read the journal
    pub asked_stays : HasAsked cmp matching face id expr place before → HasRead cmp matching before after → HasAsked cmp matching face id expr place after
    asked_stays asked reads = record {
      entry = asked.entry;
      there = get_longer before.found.entries after.found.entries place asked.entry reads.finds.begins asked.there;
      is_of = asked.is_of;
      sent = asked.sent;
      accepted = asked.accepted;
      replay = reads.replay;
    }

    asked_visible : (asked : HasAsked cmp matching face id expr place after) → AreVisible cmp matching face expr (rows_at cmp matching place after) (answers_to face id asked.sent)
    asked_visible asked =
        let rows = rows_at cmp matching place after in
        let at = replayed_at cmp matching place after.found.entries after.opening.opening.rows asked.entry asked.replay asked.there in
        visible_found cmp matching face id expr rows asked.sent (ap (λ c. outcome_of cmp matching c rows) (sym asked.is_of) ∙ sym at.1 ∙ asked.accepted)

    read_same : (asked : HasAsked cmp matching face id expr place after) (sent : List (Sent K)) → outcome_at place after ≡ Some (Ok sent) → asked.sent ≡ sent
    read_same asked sent read =
        let there : outcome_at place after ≡ Some asked.entry.outcome = ap (option_map (λ (e : Journalled K). e.outcome)) asked.there in
        let accepted = asked.accepted in
        cc

    -- the answers that are read back are what is visible
    pub read_visible : HasAsked cmp matching face id expr place before → HasRead cmp matching before after → (sent : List (Sent K)) → outcome_at place after ≡ Some (Ok sent)
        → (keys : List K) → keys ≡ answers_to face id sent
        → AreVisible cmp matching face expr (rows_at cmp matching place after) keys
    read_visible asked reads sent read keys are =
        let stays = asked_stays asked reads in
        subst (AreVisible cmp matching face expr (rows_at cmp matching place after)) (ap (answers_to face id) (read_same stays sent read) ∙ sym are) (asked_visible stays)

    pub read_table : IsTotalOrder cmp → HasAsked cmp matching face id expr place before → HasRead cmp matching before after → (sent : List (Sent K)) → outcome_at place after ≡ Some (Ok sent)
        → (keys : List K) → keys ≡ answers_to face id sent → IsTable cmp keys
    read_table total asked reads sent read keys are =
        record { ordered = visible_in_order cmp matching total face expr (rows_at cmp matching place after) keys (read_visible asked reads sent read keys are) }

  -- ---- a poll

  pub beyond_table : (others keys : List K) → IsTable cmp keys → (found : List K) → found ≡ beyond cmp others keys → IsTable cmp found
  beyond_table others keys table found are = subst (IsTable cmp) (sym are) (record { ordered = in_order_filter cmp (λ e. not (is_among cmp e others)) keys table.ordered })

  -- an answer that is no refusal tells of an accepted entry
  pub accepted_of : (entry : Journalled K) (made : Option ℕ) → answered entry ≡ Ok made → (sent : List (Sent K)) × (entry.outcome ≡ Ok sent)
  accepted_of entry made told = by_outcome entry.outcome refl
    where
      by_outcome : (o : PlainEntry K) → entry.outcome ≡ o → (sent : List (Sent K)) × (entry.outcome ≡ Ok sent)
      by_outcome (Ok sent) is = (sent, is)
      by_outcome (Err refusal) is =
          let refused : answered entry ≡ Err refusal = ap (λ (o : PlainEntry K). (let r : Result (Option ℕ) Refusal = elim o [ Ok sent ↦ Ok entry.made | Err refusal ↦ Err refusal ] in r)) is in
          cc

  module _ (before between after : Standing (Recorded K)) (old new : Presence K) (receipt : Receipt) (change : Change K) where
    mine_read : (entry : Journalled K) → Adds entries_of pass_of before between receipt.place entry → HasRead cmp matching between after → mine entries_of pass_of after ≡ mine entries_of pass_of before ++ (receipt.place, entry) ∷ []
    mine_read entry adds reads =
        ap (λ n. owned pass_of n after.found.entries) (ap (λ (s : Standing (Recorded K)). s.number) reads.looked)
        ∙ reads.finds.mine_same
        ∙ adds.mine_more

    polls_from : old.polls < 4294967295 → old.next_place ≤ before.seen → IsTable cmp old.table
        → (enters : Enters cmp matching (next_ask old) receipt before between)
        → (sent : List (Sent K)) → enters.entry.outcome ≡ Ok sent
        → HasRead cmp matching between after
        → Finds cmp matching receipt.place after (polled receipt.place old.table old) new change
        → Polls cmp matching before after old new change
    polls_from within seen table enters sent accepted reads finds =
        let entry = enters.entry in
        let place = sym finds.place_is in
        let there = get_longer between.found.entries after.found.entries receipt.place entry reads.finds.begins (stands_there before between receipt.place entry enters.adds) in
        let first : before.seen ≤ receipt.place = subst (λ n. before.seen ≤ n) (sym enters.adds.placed) enters.adds.finds.seen_long in
        let behind : before.seen ≤ change.place = subst (λ n. before.seen ≤ n) place first in
        record {
          within = within;
          entry = entry;
          asks =
              subst (λ n. MakesAndReads cmp matching (next_ask old) before after n entry) place
              (record { between = between; makes = makes_of (next_ask old) receipt before between enters; sent = sent; accepted = accepted; reads = reads });
          mine_more = subst (λ n. mine entries_of pass_of after ≡ mine entries_of pass_of before ++ (n, entry) ∷ []) place (mine_read entry enters.adds reads);
          there = subst (λ n. slice_get after.found.entries n ≡ Some entry) place there;
          seen = behind;
          later = omega arith;
          visible = subst (λ n. AreVisible cmp matching old.face old.expr (rows_at cmp matching n after) new.table) place finds.visible;
          ordered = finds.ordered;
          is = subst (λ n. new ≡ polled n new.table old) place finds.is;
          joined = finds.joined;
          joined_ordered = beyond_table old.table new.table finds.ordered change.joined.items finds.joined;
          left = finds.left;
          left_ordered = beyond_table new.table old.table table change.left.items finds.left;
        }

    pub polls_of : (mid : Presence K) → mid ≡ polled receipt.place old.table old
        → old.polls < 4294967295 → old.next_place ≤ before.seen → IsTable cmp old.table
        → (enters : Enters cmp matching (next_ask old) receipt before between)
        → (made : Option ℕ) → receipt.answer ≡ Ok made
        → HasRead cmp matching between after
        → Finds cmp matching receipt.place after mid new change
        → Polls cmp matching before after old new change
    polls_of mid is within seen table enters made told reads finds =
        let accepted = accepted_of enters.entry made (sym enters.answer ∙ told) in
        polls_from within seen table enters accepted.0 accepted.1 reads (subst (λ m. Finds cmp matching receipt.place after m new change) is finds)

  -- the entry of an ask that wasn't refused
  pub asked_of : (before after : Standing (Recorded K)) (old mid : Presence K) (receipt : Receipt) (made : Option ℕ) → mid ≡ polled receipt.place old.table old
      → Enters cmp matching (next_ask old) receipt before after → receipt.answer ≡ Ok made → HasAsked cmp matching mid.face mid.polls mid.expr receipt.place after
  asked_of before after old mid receipt made is enters told =
      let accepted = accepted_of enters.entry made (sym enters.answer ∙ told) in
      subst (λ m. HasAsked cmp matching m.face m.polls m.expr receipt.place after) (sym is)
      (record {
        entry = enters.entry;
        there = stands_there before after receipt.place enters.entry enters.adds;
        is_of = enters.is_of;
        sent = accepted.0;
        accepted = accepted.1;
        replay = enters.replay;
      })

  -- ---- opening

  -- a session that wasn't refused has a face
  pub opened_face : (before after : Standing (Recorded K)) (receipt : Receipt) → Enters cmp matching (NewSession 1) receipt before after → receipt.answer ≡ Ok None → ⊥
  opened_face before after receipt enters told =
      let entry = enters.entry in
      let rows = rows_at cmp matching receipt.place after in
      let accepted = accepted_of entry None (sym enters.answer ∙ told) in
      let came = came_to before after receipt.place entry enters.adds enters.replay in
      let outcome : outcome_of cmp matching (NewSession 1) rows ≡ Ok accepted.0 = ap (λ c. outcome_of cmp matching c rows) (sym enters.is_of) ∙ sym came.1 ∙ accepted.1 in
      let made : entry.made ≡ Some (rows.made + 1) = came.0 ∙ ap (λ c. made_by cmp matching c rows) enters.is_of ∙ session_made cmp matching 1 rows accepted.0 outcome in
      let none : Ok entry.made ≡ Ok None = sym (ap (λ (o : PlainEntry K). (let r : Result (Option ℕ) Refusal = elim o [ Ok sent ↦ Ok entry.made | Err refusal ↦ Err refusal ] in r)) accepted.1) ∙ sym enters.answer ∙ told in
      cc
