-- A journal of workers and of a monitor beside them, whose pass is drawn behind theirs.
use Rattle.std.specs.Prelude.{◌≡◌, ◌⊎◌, ℕ, ◌+◌, ◌<◌, ◌==◌, if◌then◌else◌, Bool, List, [], map, length, Option}
use Rattle.std.specs.declared.cmp.Ordering.{Ordering}
use Rattle.atomic_table.specs.Seated.{TableId}
use Rattle.zt_protocol.specs.Plain.{PlainCall}
use Rattle.zt_model.specs.Journal.{Journalled}
use Rattle.zt_model.specs.Rows.{Rows}
use Rattle.zt_laws.specs.Sound.{EachFrom}
use Rattle.zt_shared_value.specs.Passes.{Standing}
use Rattle.zt_shared.specs.Recorded.{Recorded}
use Rattle.zt_theorem_watch.specs.Beside.{Monitors, MonitorsNothing}
use Rattle.zt_theorem_watch.specs.Tables.{PlainPoll}
use Rattle.zt_dealing.specs.Dealing.{HasMade, IsJob, IsMadeByPasses, part}
use Rattle.zt_dealing.specs.declared.dealing.Job.{Job}

-- the lines of each pass: a worker's are dealt to it, and the monitor's have the number 0
abbrev pub dealt_beside : {K : Type 0} → ℕ → List (ℕ × PlainCall K) → List (PlainCall K) → ℕ → List (ℕ × PlainCall K)
dealt_beside workers calls monitor p = if p == workers then map (λ c. (0, c)) monitor else part workers p calls

-- so many jobs are dealt
pub record AreDealt {K : Type 0} (table : TableId) (opening : Recorded K) (workers : ℕ) (calls : List (ℕ × PlainCall K)) (jobs : List (Job K)) : Type 0 where
  pub some : 0 < workers
  pub many : length jobs ≡ workers
  pub each : EachFrom (IsJob table opening workers calls) 0 jobs

-- A pass was drawn behind those of the jobs, which are as before but for that.
pub record IsDrawnBehind {K : Type 0} (table : TableId) (before after : List (Job K)) (own : Standing (Recorded K)) : Type 0 where
  pub dealt : (opening : Recorded K) (workers : ℕ) (calls : List (ℕ × PlainCall K)) → opening.entries ≡ [] → AreDealt table opening workers calls before
      → AreDealt table opening workers calls after × HasMade table opening workers [] own

module _ {K : Type 0} (cmp : K → K → Ordering) (matching : K → K → Bool) where
  -- The journal is a replay from these rows. Each worker's entries of it are its calls in order, with their lines; the
  -- others are the monitor's, all with the number 0, and the polls are what came of them.
  pub record IsMadeBeside (workers : ℕ) (calls : List (ℕ × PlainCall K)) (count : ℕ) (expr : Option K) (rows : Rows K) (journal : List (Journalled K)) (lines : List ℕ) (polls : List (PlainPoll K)) : Type 0 where
    pub monitor : List (PlainCall K)
    pub made : IsMadeByPasses cmp matching (workers + 1) (dealt_beside workers calls monitor) rows journal lines
    pub polled : Monitors cmp matching workers rows journal count expr monitor polls ⊎ MonitorsNothing cmp matching workers rows journal monitor polls
