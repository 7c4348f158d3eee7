-- What opening a monitor and its polls come to.
use Rattle.std.specs.Prelude.{◌≡◌, ◌⊎◌, ℕ, ◌+◌, ◌<◌, ◌≤◌, Bool, List, [], ◌∷◌, ◌++◌, Option, Some}
use Rattle.std.specs.Prelude.{Ok, Err, option_map, slice_get}
use Rattle.std.specs.declared.cmp.Ordering.{Ordering}
use mathlib.Core.List.{IsPrefix}
use Rattle.zt_model.specs.Journal.{Journalled}
use Rattle.zt_model.specs.Rows.{Rows}
use Rattle.zt_protocol.specs.Plain.{NewSession, PlainCall, PlainEntry}
use Rattle.zt_protocol.specs.declared.entries.Sent.{Sent}
use Rattle.zt_shared_value.specs.Passes.{Adds, Standing, mine}
use Rattle.zt_shared.specs.Recorded.{Recorded}
use Rattle.zt_shared.specs.Sharing.{HasRead, HasReplay, entries_of, pass_of}
use Rattle.zt_theorem_journal.specs.Asked.{AreVisible, rows_before, token_ask}
use Rattle.zt_presence.specs.Presence.{IsTable, Presence, beyond, next_ask, polled}
use Rattle.zt_presence.specs.declared.monitor.PresenceError.{PresenceError}
use Rattle.zt_presence.specs.declared.monitor.PresenceError.TheVariants.{Refused, PollsSpent}
use Rattle.zt_presence.specs.declared.monitor.PresenceError.TheVariants.{Memory}
use Rattle.zt_presence.specs.declared.tables.Change.{Change}

-- what the entry at the place came to, where the pass has one there
abbrev pub outcome_at : {K : Type 0} → ℕ → Standing (Recorded K) → Option (PlainEntry K)
outcome_at place pass = option_map (λ e. e.outcome) (slice_get pass.found.entries place)

-- The pass made no entry. It may have found the journal.
pub record MakesNone {K : Type 0} (before after : Standing (Recorded K)) : Type 0 where
  pub rest : after ≡ record before { found = after.found }
  pub begins : IsPrefix before.found.entries after.found.entries
  pub mine_same : mine entries_of pass_of after ≡ mine entries_of pass_of before

module _ {K : Type 0} (cmp : K → K → Ordering) (matching : K → K → Bool) where
  -- the rows where the entries before the place, of what the pass has, were carried out
  abbrev pub rows_at : ℕ → Standing (Recorded K) → Rows K
  rows_at place pass = rows_before cmp matching place pass.found.entries pass.opening.opening.rows

  -- The pass made the call: its entry was added at the place, behind all that it had seen, and what
  -- the pass then has is a replay.
  pub record Makes (call : PlainCall K) (before after : Standing (Recorded K))
      (place : ℕ) (entry : Journalled K) : Type 0 where
    pub adds : Adds entries_of pass_of before after place entry
    pub by : entry.pass ≡ before.number
    pub is_of : entry.call ≡ call
    pub replay : HasReplay cmp matching after

  -- The pass made the call, which wasn't refused, and then read the journal.
  pub record MakesAndReads (call : PlainCall K) (before after : Standing (Recorded K))
      (place : ℕ) (entry : Journalled K) : Type 0 where
    pub between : Standing (Recorded K)
    pub makes : Makes call before between place entry
    pub sent : List (Sent K)
    pub accepted : entry.outcome ≡ Ok sent
    pub reads : HasRead cmp matching between after

  -- ---- opening

  -- A session was made, whose face the monitor has. It has made no poll yet, and its table is
  -- empty.
  pub record Opens (expr : Option K) (before after : Standing (Recorded K))
      (monitor : Presence K) : Type 0 where
    pub place : ℕ
    pub entry : Journalled K
    pub makes : Makes (NewSession 1) before after place entry
    pub made : entry.made ≡ Some monitor.face
    pub is : monitor
        ≡ record {
          face = monitor.face;
          polls = 0;
          next_place = place + 1;
          expr = expr;
          table = [];
        }

  -- The session was refused, or memory ran out and it wasn't made.
  abbrev pub OpeningFails : Standing (Recorded K) → Standing (Recorded K) → PresenceError → Type 0
  OpeningFails before after (Refused place refusal) = (entry : Journalled K)
      × Makes (NewSession 1) before after place entry × (entry.outcome ≡ Err refusal)
  OpeningFails before after PollsSpent = ⊥
  OpeningFails before after Memory = MakesNone before after

  -- ---- polls

  -- The poll's ask stands at the place of the change, behind all that the pass had seen and the
  -- entries that the monitor made before. The table is what its face may see, of what it asks for,
  -- where the entries before that place were carried out. The change has what the table gained and
  -- what it lost, in key order.
  pub record Polls (before after : Standing (Recorded K)) (old new : Presence K)
      (change : Change K) : Type 0 where
    pub within : old.polls < 4294967295
    pub entry : Journalled K
    pub asks : MakesAndReads (next_ask old) before after change.place entry
    pub mine_more : mine entries_of pass_of after
        ≡ mine entries_of pass_of before ++ (change.place, entry) ∷ []
    pub there : slice_get after.found.entries change.place ≡ Some entry
    pub seen : before.seen ≤ change.place
    pub later : old.next_place ≤ change.place
    pub visible : AreVisible cmp matching old.face old.expr (rows_at change.place after) new.table
    pub ordered : IsTable cmp new.table
    pub is : new ≡ polled change.place new.table old
    pub joined : change.joined.items ≡ beyond cmp old.table new.table
    pub joined_ordered : IsTable cmp change.joined.items
    pub left : change.left.items ≡ beyond cmp new.table old.table
    pub left_ordered : IsTable cmp change.left.items

  -- Memory ran out before the poll's entry was made, or after that, and then the poll counts.
  abbrev pub LacksMemory : (before after : Standing (Recorded K)) (old new : Presence K) → Type 0
  LacksMemory before after old new =
      (MakesNone before after × (new ≡ old))
      ⊎ ((place : ℕ) × (entry : Journalled K)
      × MakesAndReads (next_ask old) before after place entry
      × (new ≡ polled place old.table old))

  -- The poll's ask was refused, all polls were made before, or memory ran out. The table is as
  -- before.
  abbrev pub PollFails : (before after : Standing (Recorded K)) (old new : Presence K)
      → PresenceError → Type 0
  PollFails before after old new (Refused place refusal) =
      (old.polls < 4294967295) × (entry : Journalled K)
      × Makes (next_ask old) before after place entry × (entry.outcome ≡ Err refusal)
      × (new ≡ polled place old.table old)
  PollFails before after old new PollsSpent =
      (old.polls ≡ 4294967295) × (after ≡ before) × (new ≡ old)
  PollFails before after old new Memory =
      (old.polls < 4294967295) × LacksMemory before after old new

  -- ---- parts of a poll

  -- The pass has at the place the accepted entry of an ask for tokens, in a replay.
  pub record HasAsked (face id : ℕ) (expr : Option K) (place : ℕ)
      (pass : Standing (Recorded K)) : Type 0 where
    pub entry : Journalled K
    pub there : slice_get pass.found.entries place ≡ Some entry
    pub is_of : entry.call ≡ token_ask face id expr
    pub sent : List (Sent K)
    pub accepted : entry.outcome ≡ Ok sent
    pub replay : HasReplay cmp matching pass

  -- The table was found at the place, and nothing else of the monitor changed.
  pub record Finds (place : ℕ) (pass : Standing (Recorded K)) (old new : Presence K)
      (change : Change K) : Type 0 where
    pub place_is : change.place ≡ place
    pub visible : AreVisible cmp matching old.face old.expr (rows_at place pass) new.table
    pub ordered : IsTable cmp new.table
    pub is : new ≡ record old { table = new.table }
    pub joined : change.joined.items ≡ beyond cmp old.table new.table
    pub left : change.left.items ≡ beyond cmp new.table old.table
