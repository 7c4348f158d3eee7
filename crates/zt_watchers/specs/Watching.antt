-- A monitor with its pass and its polls, and how it goes on.
use Rattle.std.specs.Prelude.{◌≡◌, ℕ, ◌+◌, ◌<◌, ◌≤◌, Bool, List, [], ◌∷◌, ◌++◌, length, map, slice_get, Option, Some, Err}
use Rattle.std.specs.declared.cmp.Ordering.{Ordering}
use mathlib.Core.List.{IsPrefix}
use Rattle.atomic_table.specs.Seated.{TableId}
use Rattle.zt_protocol.specs.Plain.{NewSession}
use Rattle.zt_protocol.specs.declared.errors.Refusal.{Refusal}
use Rattle.zt_model.specs.Journal.{Journalled}
use Rattle.zt_laws.specs.Order.{InKeyOrder}
use Rattle.zt_shared_value.specs.Passes.{Standing}
use Rattle.zt_shared.specs.Recorded.{Recorded}
use Rattle.zt_dealing.specs.Dealing.{calls_of}
use Rattle.zt_presence.specs.Polling.{rows_at}
use Rattle.zt_presence.specs.Presence.{Presence, next_ask}
use Rattle.zt_theorem_journal.specs.Asked.{AreVisible}
use Rattle.zt_theorem_watch.specs.Beside.{ArePolled}
use Rattle.zt_theorem_watch.specs.Tables.{PlainPoll, table_after, tables_after}
use Rattle.zt_theorem_watch.specs.Watched.{Agrees, asks_from}
use Rattle.zt_watchers.specs.Text.{plain_poll}
use Rattle.zt_watchers.specs.declared.polls.Poll.{Poll}
use Rattle.zt_watchers.specs.declared.monitoring.Opened.{Opened}
use Rattle.zt_watchers.specs.declared.monitoring.Opened.TheVariants as opens
use Rattle.zt_watchers.specs.declared.monitoring.Watching.{Watching}

-- the monitor may poll by its pass, which is one of the table
pub record CouldPoll {K : Type 0} (table : TableId) (w : Watching K) : Type 0 where
  pub own : w.pass.table ≡ table
  pub seen : w.monitor.next_place ≤ w.pass.seen

-- a pass that goes on: only what it has seen, read and made changed
pub record IsLaterPass {K : Type 0} (before after : Standing (Recorded K)) : Type 0 where
  pub table : after.table ≡ before.table
  pub opening : after.opening ≡ before.opening
  pub number : after.number ≡ before.number
  pub known : after.known ≡ before.known

-- the monitor's session was refused
pub record RefusesWatch {K : Type 0} (before after : Standing (Recorded K)) : Type 0 where
  pub later : IsLaterPass before after
  pub calls : calls_of after ≡ calls_of before ++ NewSession 1 ∷ []
  pub place : ℕ
  pub entry : Journalled K
  pub there : slice_get after.found.entries place ≡ Some entry
  pub by : entry.pass ≡ after.number
  pub refusal : Refusal
  pub refused : entry.outcome ≡ Err refusal

module _ {K : Type 0} (cmp : K → K → Ordering) (matching : K → K → Bool) where
  -- The monitor's next ask was made by the pass and stands at the poll's place. The poll says what it came to, and the
  -- monitor's table, where it stands in order, follows from the one before by that.
  pub record PollsOnce (old new : Presence K) (before after : Standing (Recorded K)) (poll : Poll K) : Type 0 where
    pub later : IsLaterPass before after
    pub begins : IsPrefix before.found.entries after.found.entries
    pub calls : calls_of after ≡ calls_of before ++ next_ask old ∷ []
    pub entry : Journalled K
    pub there : slice_get after.found.entries poll.place ≡ Some entry
    pub by : entry.pass ≡ after.number
    pub is_of : entry.call ≡ next_ask old
    pub agrees : Agrees (AreVisible cmp matching old.face old.expr (rows_at cmp matching poll.place after) new.table) entry.outcome (plain_poll poll).outcome
    pub table : InKeyOrder cmp old.table → new.table ≡ table_after cmp (plain_poll poll) old.table
    pub face : new.face ≡ old.face
    pub expr : new.expr ≡ old.expr
    pub polls : new.polls ≡ old.polls + 1
    pub seen : new.next_place ≤ after.seen

  -- The pass, whose number is at least this one, has opened the monitor's session and then made an ask for each poll,
  -- and nothing else. The polls say what came of it, and the monitor's table follows from what they say.
  pub record IsWatching (least : ℕ) (expr : Option K) (w : Watching K) : Type 0 where
    pub least_number : least ≤ w.pass.number
    pub counted : w.pass.number < w.pass.known
    pub asks_for : w.monitor.expr ≡ expr
    pub place : ℕ
    pub entry : Journalled K
    pub there : slice_get w.pass.found.entries place ≡ Some entry
    pub by : entry.pass ≡ w.pass.number
    pub is_of : entry.call ≡ NewSession 1
    pub made : entry.made ≡ Some w.monitor.face
    pub polls : w.monitor.polls ≡ length w.polls.items
    pub calls : calls_of w.pass ≡ NewSession 1 ∷ asks_from w.monitor.face 1 (length w.polls.items) expr
    pub each : ArePolled cmp matching w.pass.number w.pass.opening.opening.rows w.pass.found.entries w.monitor.face expr 1 [] (map plain_poll w.polls.items)
    pub table : w.monitor.table ≡ tables_after cmp (map plain_poll w.polls.items) []

  -- so many polls were made
  pub record GoesOn (count : ℕ) (old new : Watching K) : Type 0 where
    pub later : IsLaterPass old.pass new.pass
    pub wanted : new.wanted ≡ old.wanted
    pub seen : new.monitor.next_place ≤ new.pass.seen
    pub more : length new.polls.items ≡ length old.polls.items + count
    pub keeps : (least : ℕ) (expr : Option K) → IsWatching least expr old → IsWatching least expr new

  -- ---- opening

  -- a monitor watches by the pass
  pub record StartsWatch (wanted : ℕ) (expr : Option K) (pass : Standing (Recorded K)) (w : Watching K) : Type 0 where
    pub later : IsLaterPass pass w.pass
    pub as_often : w.wanted ≡ wanted
    pub seen : w.monitor.next_place ≤ w.pass.seen
    pub none_yet : w.polls.items ≡ []
    pub starts : (least : ℕ) → least ≤ pass.number → pass.number < pass.known → calls_of pass ≡ [] → IsWatching least expr w

  abbrev pub OpensWatch : ℕ → Option K → Standing (Recorded K) → Opened K → Type 0
  OpensWatch wanted expr pass (opens.Watching w) = StartsWatch wanted expr pass w
  OpensWatch wanted expr pass (opens.Refused after) = RefusesWatch pass after
