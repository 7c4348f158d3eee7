-- A monitor that polls once more, and one that begins.
use Rattle.std.proofs.Common.{◌≡◌, ℕ, suc, ◌+◌, ◌<◌, ◌≤◌, Bool, List, [], ◌∷◌, ◌++◌, length, map, slice_get, Option, Some, Result, Ok, Err, refl, sym, ap, ◌∙◌, subst, arith, append_assoc, length-append}
use Rattle.std.proofs.lemmas.List.{length-map}
use Rattle.std.specs.Cmp.{IsTotalOrder}
use Rattle.std.specs.declared.cmp.Ordering.{Ordering}
use Rattle.std.specs.declared.cmp.Ordering.TheVariants.{Equal}
use mathlib.Core.List.{IsPrefix}
use Rattle.atomic_table.specs.Seated.{TableId}
use Rattle.zt_protocol.specs.Plain.{NewSession, PlainCall, PlainEntry}
use Rattle.zt_protocol.specs.declared.entries.Sent.{Sent}
use Rattle.zt_protocol.specs.declared.errors.Refusal.{Refusal}
use Rattle.zt_model.specs.Journal.{Journalled}
use Rattle.zt_model.specs.Rows.{Rows}
use Rattle.zt_laws.specs.Order.{InKeyOrder}
use Rattle.zt_laws.proofs.Lists.{map-append}
use Rattle.zt_shared_value.specs.Passes.{Adds, Standing, mine}
use Rattle.zt_shared.specs.Recorded.{Recorded}
use Rattle.zt_shared.specs.Sharing.{HasRead, entries_of, pass_of}
use Rattle.zt_presence.specs.Polling.{Makes, Opens, PollFails, OpeningFails, Polls, rows_at}
use Rattle.zt_presence.specs.Presence.{Presence, next_ask}
use Rattle.zt_presence.specs.declared.monitor.PresenceError.TheVariants as failed
use Rattle.zt_presence.specs.declared.tables.Change.{Change}
use Rattle.zt_presence.proofs.PollLemmas.{stands_there}
use Rattle.zt_theorem_journal.specs.Asked.{AreVisible, rows_before, token_ask}
use Rattle.zt_theorem_watch.specs.Beside.{ArePolled, IsPolled}
use Rattle.zt_theorem_watch.specs.Tables.{PlainPoll, lacked_by, table_after, tables_after, with_joined, without_left}
use Rattle.zt_theorem_watch.specs.Watched.{Agrees, asks_from}
use Rattle.zt_theorem_watch.proofs.Fold.{all_ordered, follows}
use Rattle.zt_theorem_watch.proofs.Growing.{asks_more, get_longer, polled_longer, polled_more, tables_more}
use Rattle.zt_watchers.specs.Text.{plain_poll}
use Rattle.zt_watchers.specs.declared.polls.Poll.{Poll}
use Rattle.zt_dealing.specs.Dealing.{calls_of}
use Rattle.zt_watchers.specs.Watching.{CouldPoll, GoesOn, IsLaterPass, IsWatching, PollsOnce, RefusesWatch, StartsWatch}
use Rattle.zt_watchers.specs.declared.monitoring.Watching.{Watching}

prefix_trans : {A : Type 0} (xs ys zs : List A) → IsPrefix xs ys → IsPrefix ys zs → IsPrefix xs zs
prefix_trans xs ys zs one two = (one.0 ++ two.0, sym (append_assoc xs one.0 two.0) ∙ ap (λ ts. ts ++ two.0) one.1 ∙ two.1)

module _ {K : Type 0} where
  later_trans : (a b c : Standing (Recorded K)) → IsLaterPass a b → IsLaterPass b c → IsLaterPass a c
  later_trans a b c one two = record {
    table = two.table ∙ one.table;
    opening = two.opening ∙ one.opening;
    number = two.number ∙ one.number;
    known = two.known ∙ one.known;
  }

  -- a pass that added an entry
  added_later : (before after : Standing (Recorded K)) (place : ℕ) (entry : Journalled K) → Adds entries_of pass_of before after place entry → IsLaterPass before after
  added_later before after place entry adds = record {
    table = ap (λ (p : Standing (Recorded K)). p.table) adds.rest;
    opening = ap (λ (p : Standing (Recorded K)). p.opening) adds.rest;
    number = ap (λ (p : Standing (Recorded K)). p.number) adds.rest;
    known = ap (λ (p : Standing (Recorded K)). p.known) adds.rest;
  }

  added_begins : (before after : Standing (Recorded K)) (place : ℕ) (entry : Journalled K) → Adds entries_of pass_of before after place entry → IsPrefix before.found.entries after.found.entries
  added_begins before after place entry adds =
      prefix_trans before.found.entries adds.found.entries after.found.entries adds.finds.begins (entry ∷ [], sym adds.added)

  more_calls : (before after : Standing (Recorded K)) (place : ℕ) (entry : Journalled K) (call : PlainCall K) → mine entries_of pass_of after ≡ mine entries_of pass_of before ++ (place, entry) ∷ [] → entry.call ≡ call → calls_of after ≡ calls_of before ++ call ∷ []
  more_calls before after place entry call more is =
      ap (map (λ (x : ℕ × Journalled K). x.1.call)) more
      ∙ map-append (λ (x : ℕ × Journalled K). x.1.call) (mine entries_of pass_of before) ((place, entry) ∷ [])
      ∙ ap (λ c. calls_of before ++ c ∷ []) is

module _ {K : Type 0} (cmp : K → K → Ordering) (matching : K → K → Bool) where
  read_later : (before after : Standing (Recorded K)) → HasRead cmp matching before after → IsLaterPass before after
  read_later before after reads = record {
    table = ap (λ (p : Standing (Recorded K)). p.table) reads.looked;
    opening = ap (λ (p : Standing (Recorded K)). p.opening) reads.looked;
    number = ap (λ (p : Standing (Recorded K)). p.number) reads.looked;
    known = ap (λ (p : Standing (Recorded K)). p.known) reads.looked;
  }

  -- ---- one poll

  module _ (total : IsTotalOrder cmp) (equal_is_same : (a b : K) → cmp a b ≡ Equal → a ≡ b) where
    -- that found something
    pub found_once : (old new : Presence K) (before after : Standing (Recorded K)) (change : Change K) (poll : Poll K) → Polls cmp matching before after old new change → poll.place ≡ change.place
        → (plain_poll poll).outcome ≡ Ok (change.joined.items, change.left.items) → new.next_place ≤ after.seen → PollsOnce cmp matching old new before after poll
    found_once old new before after change poll polls placed found seen =
        let adds = polls.asks.makes.adds in
        let between = polls.asks.between in
        let later = later_trans before between after (added_later before between change.place polls.entry adds) (read_later between after polls.asks.reads) in
        let sees : Type 0 = AreVisible cmp matching old.face old.expr (rows_at cmp matching poll.place after) new.table in
        let sees_at : sees = subst (λ n. AreVisible cmp matching old.face old.expr (rows_at cmp matching n after) new.table) (sym placed) polls.visible in
        record {
          later = later;
          begins = prefix_trans before.found.entries between.found.entries after.found.entries (added_begins before between change.place polls.entry adds) polls.asks.reads.finds.begins;
          calls = more_calls before after change.place polls.entry (next_ask old) polls.mine_more polls.asks.makes.is_of;
          entry = polls.entry;
          there = ap (slice_get after.found.entries) placed ∙ polls.there;
          by = polls.asks.makes.by ∙ sym later.number;
          is_of = polls.asks.makes.is_of;
          agrees =
              subst (λ o. Agrees sees polls.entry.outcome o) (sym found)
              (subst (λ (o : PlainEntry K). Agrees sees o (Ok (change.joined.items, change.left.items))) (sym polls.asks.accepted) sees_at);
          table = λ ordered.
              sym (follows cmp total equal_is_same old.table new.table ordered polls.ordered.ordered)
              ∙ ap (λ js. without_left cmp (lacked_by cmp new.table old.table) (with_joined cmp js old.table)) (sym polls.joined)
              ∙ ap (λ ls. without_left cmp ls (with_joined cmp change.joined.items old.table)) (sym polls.left)
              ∙ ap (λ (o : Result (List K × List K) Refusal). table_after cmp (record { place = poll.place; outcome = o }) old.table) (sym found);
          face = ap (λ (p : Presence K). p.face) polls.is;
          expr = ap (λ (p : Presence K). p.expr) polls.is;
          polls = ap (λ (p : Presence K). p.polls) polls.is;
          seen = seen;
        }

  -- that was refused
  pub refused_once : (old new : Presence K) (before after : Standing (Recorded K)) (place : ℕ) (refusal : Refusal) (poll : Poll K) → PollFails cmp matching before after old new (failed.Refused place refusal) → poll.place ≡ place
      → (plain_poll poll).outcome ≡ Err refusal → new.next_place ≤ after.seen → PollsOnce cmp matching old new before after poll
  refused_once old new before after place refusal poll fails placed found seen =
      let entry = fails.1 in
      let makes = fails.2 in
      let is = fails.4 in
      let later = added_later before after place entry makes.adds in
      let sees : Type 0 = AreVisible cmp matching old.face old.expr (rows_at cmp matching poll.place after) new.table in
      record {
        later = later;
        begins = added_begins before after place entry makes.adds;
        calls = more_calls before after place entry (next_ask old) makes.adds.mine_more makes.is_of;
        entry = entry;
        there = ap (slice_get after.found.entries) placed ∙ stands_there cmp matching before after place entry makes.adds;
        by = makes.by ∙ sym later.number;
        is_of = makes.is_of;
        agrees = subst (λ o. Agrees sees entry.outcome o) (sym found) (subst (λ (o : PlainEntry K). Agrees sees o (Err refusal)) (sym fails.3) refl);
        table = λ ordered.
            ap (λ (p : Presence K). p.table) is
            ∙ ap (λ (o : Result (List K × List K) Refusal). table_after cmp (record { place = poll.place; outcome = o }) old.table) (sym found);
        face = ap (λ (p : Presence K). p.face) is;
        expr = ap (λ (p : Presence K). p.expr) is;
        polls = ap (λ (p : Presence K). p.polls) is;
        seen = seen;
      }

  -- the rows before a place, from an opening
  abbrev rows_where : ℕ → List (Journalled K) → Recorded K → Rows K
  rows_where place entries o = rows_before cmp matching place entries o.opening.rows

  -- ---- many polls

  module _ (total : IsTotalOrder cmp) where
    pub one_more : (old new : Watching K) (poll : Poll K) → PollsOnce cmp matching old.monitor new.monitor old.pass new.pass poll → new.wanted ≡ old.wanted → new.polls.items ≡ old.polls.items ++ poll ∷ [] → GoesOn cmp matching 1 old new
    one_more old new poll once wanted more = record {
      later = once.later;
      wanted = wanted;
      seen = once.seen;
      more = ap length more ∙ length-append old.polls.items (poll ∷ []);
      keeps = λ least expr is. keep least expr is;
    }
      where
        keep : (least : ℕ) (expr : Option K) → IsWatching cmp matching least expr old → IsWatching cmp matching least expr new
        keep least expr is = record {
          least_number = let same = once.later.number in let low = is.least_number in omega arith;
          counted = let same = once.later.number in let known = once.later.known in let less = is.counted in omega arith;
          asks_for = once.expr ∙ is.asks_for;
          place = is.place;
          entry = is.entry;
          there = get_longer old.pass.found.entries new.pass.found.entries is.place is.entry once.begins is.there;
          by = is.by ∙ sym once.later.number;
          is_of = is.is_of;
          made = is.made ∙ ap Some (sym once.face);
          polls = once.polls ∙ ap (λ n. n + 1) is.polls ∙ sym longer;
          calls =
              once.calls ∙ ap (λ cs. cs ++ next_ask old.monitor ∷ []) is.calls
              ∙ ap (λ c. NewSession 1 ∷ (asks_from old.monitor.face 1 count expr ++ c ∷ [])) ask
              ∙ ap (λ cs. NewSession 1 ∷ cs) (sym (asks_more old.monitor.face 1 count expr))
              ∙ ap (λ n. NewSession 1 ∷ asks_from old.monitor.face 1 n expr) (sym longer)
              ∙ ap (λ f. NewSession 1 ∷ asks_from f 1 (length new.polls.items) expr) (sym once.face);
          each = subst (λ (ps : List (PlainPoll K)). Polls_ new.pass.number new.pass.opening new.monitor.face ps) (sym polls_are) moved;
          table = once.table ordered ∙ ap (table_after cmp (plain_poll poll)) is.table ∙ sym (tables_more cmp before (plain_poll poll) []) ∙ sym (ap (λ ps. tables_after cmp ps []) polls_are);
        }
          where
            count : ℕ
            count = length old.polls.items

            longer : length new.polls.items ≡ count + 1
            longer = ap length more ∙ length-append old.polls.items (poll ∷ [])

            before : List (PlainPoll K)
            before = map plain_poll old.polls.items

            polls_are : map plain_poll new.polls.items ≡ map plain_poll old.polls.items ++ plain_poll poll ∷ []
            polls_are = ap (map plain_poll) more ∙ map-append plain_poll old.polls.items (poll ∷ [])

            ordered : InKeyOrder cmp old.monitor.table
            ordered = subst (InKeyOrder cmp) (sym is.table) (all_ordered cmp total (map plain_poll old.polls.items) [] tt)

            -- the ask of this poll
            ask : next_ask old.monitor ≡ token_ask old.monitor.face (1 + length old.polls.items) expr
            ask =
                ap (λ e. token_ask old.monitor.face (old.monitor.polls + 1) e) is.asks_for
                ∙ ap (λ n. token_ask old.monitor.face n expr) (let same = is.polls in let n : old.monitor.polls + 1 ≡ 1 + length old.polls.items = omega arith in n)

            Polls_ : ℕ → Recorded K → ℕ → List (PlainPoll K) → Type 0
            Polls_ number opening face ps = ArePolled cmp matching number opening.opening.rows new.pass.found.entries face expr 1 [] ps

            -- the polls before, in the longer journal, and this one
            all : ArePolled cmp matching old.pass.number old.pass.opening.opening.rows new.pass.found.entries old.monitor.face expr 1 [] (map plain_poll old.polls.items ++ plain_poll poll ∷ [])
            all =
                polled_more cmp matching old.pass.number old.pass.opening.opening.rows old.monitor.face expr new.pass.found.entries 1 [] (map plain_poll old.polls.items) (plain_poll poll)
                (polled_longer cmp matching old.pass.number old.pass.opening.opening.rows old.monitor.face expr old.pass.found.entries new.pass.found.entries once.begins 1 [] (map plain_poll old.polls.items) is.each)
                (record {
                  entry = once.entry;
                  there = once.there;
                  by = once.by ∙ once.later.number;
                  is_of = once.is_of ∙ ask ∙ ap (λ n. token_ask old.monitor.face (1 + n) expr) (sym (length-map old.polls.items plain_poll));
                  agrees = sees;
                })
              where
                sees : Agrees (AreVisible cmp matching old.monitor.face expr (rows_where poll.place new.pass.found.entries old.pass.opening) (table_after cmp (plain_poll poll) (tables_after cmp (map plain_poll old.polls.items) []))) once.entry.outcome (plain_poll poll).outcome
                sees =
                    subst (λ t. Agrees (AreVisible cmp matching old.monitor.face expr (rows_where poll.place new.pass.found.entries old.pass.opening) t) once.entry.outcome (plain_poll poll).outcome)
                    (once.table ordered ∙ ap (table_after cmp (plain_poll poll)) is.table)
                    (subst (λ e. Agrees (AreVisible cmp matching old.monitor.face e (rows_where poll.place new.pass.found.entries old.pass.opening) new.monitor.table) once.entry.outcome (plain_poll poll).outcome) is.asks_for
                    (subst (λ (o : Recorded K). Agrees (AreVisible cmp matching old.monitor.face old.monitor.expr (rows_where poll.place new.pass.found.entries o) new.monitor.table) once.entry.outcome (plain_poll poll).outcome) once.later.opening once.agrees))

            moved : Polls_ new.pass.number new.pass.opening new.monitor.face (map plain_poll old.polls.items ++ plain_poll poll ∷ [])
            moved =
                subst (λ n. Polls_ n new.pass.opening new.monitor.face (map plain_poll old.polls.items ++ plain_poll poll ∷ [])) (sym once.later.number)
                (subst (λ (o : Recorded K). Polls_ old.pass.number o new.monitor.face (map plain_poll old.polls.items ++ plain_poll poll ∷ [])) (sym once.later.opening)
                (subst (λ f. Polls_ old.pass.number old.pass.opening f (map plain_poll old.polls.items ++ plain_poll poll ∷ [])) (sym once.face) all))

  pub none_more : (table : TableId) (w : Watching K) → CouldPoll table w → GoesOn cmp matching 0 w w
  none_more table w could = record {
    later = record { table = refl; opening = refl; number = refl; known = refl };
    wanted = refl;
    seen = could.seen;
    more = omega arith;
    keeps = λ least expr is. is;
  }

  pub some_more : (a b : ℕ) (x y z : Watching K) → GoesOn cmp matching a x y → GoesOn cmp matching b y z → GoesOn cmp matching (a + b) x z
  some_more a b x y z one two = record {
    later = later_trans x.pass y.pass z.pass one.later two.later;
    wanted = two.wanted ∙ one.wanted;
    seen = two.seen;
    more = let first = one.more in let second = two.more in omega arith;
    keeps = λ least expr is. two.keeps least expr (one.keeps least expr is);
  }

  -- and it may go on
  pub may_go_on : (table : TableId) (count : ℕ) (old new : Watching K) → CouldPoll table old → GoesOn cmp matching count old new → CouldPoll table new
  may_go_on table count old new could goes = record { own = goes.later.table ∙ could.own; seen = goes.seen }

  -- ---- a monitor that begins

  pub begun : (wanted : ℕ) (expr : Option K) (before : Standing (Recorded K)) (w : Watching K) → Opens cmp matching expr before w.pass w.monitor → w.wanted ≡ wanted → w.monitor.next_place ≤ w.pass.seen → w.polls.items ≡ []
      → StartsWatch cmp matching wanted expr before w
  begun wanted expr before w opens as_often seen none = record {
    later = later;
    as_often = as_often;
    seen = seen;
    none_yet = none;
    starts = λ least low counted new. record {
      least_number = let same = later.number in omega arith;
      counted = let same = later.number in let known = later.known in omega arith;
      asks_for = ap (λ (p : Presence K). p.expr) opens.is;
      place = opens.place;
      entry = opens.entry;
      there = stands_there cmp matching before w.pass opens.place opens.entry opens.makes.adds;
      by = opens.makes.by ∙ sym later.number;
      is_of = opens.makes.is_of;
      made = opens.made;
      polls = ap (λ (p : Presence K). p.polls) opens.is ∙ sym (ap length none);
      calls =
          more_calls before w.pass opens.place opens.entry (NewSession 1) opens.makes.adds.mine_more opens.makes.is_of
          ∙ ap (λ cs. cs ++ NewSession 1 ∷ []) new
          ∙ ap (λ (ps : List (Poll K)). NewSession 1 ∷ asks_from w.monitor.face 1 (length ps) expr) (sym none);
      each = subst (λ (ps : List (Poll K)). ArePolled cmp matching w.pass.number w.pass.opening.opening.rows w.pass.found.entries w.monitor.face expr 1 [] (map plain_poll ps)) (sym none) tt;
      table = ap (λ (p : Presence K). p.table) opens.is ∙ ap (λ (ps : List (Poll K)). tables_after cmp (map plain_poll ps) []) (sym none);
    };
  }
    where
      later : IsLaterPass before w.pass
      later = added_later before w.pass opens.place opens.entry opens.makes.adds

  pub not_begun : (before after : Standing (Recorded K)) (place : ℕ) (refusal : Refusal) → OpeningFails cmp matching before after (failed.Refused place refusal) → RefusesWatch before after
  not_begun before after place refusal fails =
      let entry = fails.0 in
      let makes = fails.1 in
      let later = added_later before after place entry makes.adds in
      record {
        later = later;
        calls = more_calls before after place entry (NewSession 1) makes.adds.mine_more makes.is_of;
        place = place;
        entry = entry;
        there = stands_there cmp matching before after place entry makes.adds;
        by = makes.by ∙ sym later.number;
        refusal = refusal;
        refused = fails.2;
      }
