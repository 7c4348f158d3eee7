-- Lines that are dealt to workers, what these have made of them, and the lines of a journal's entries.
use Rattle.std.specs.Prelude.{◌≡◌, ℕ, ◌+◌, ◌<◌, ◌≤◌, ◌==◌, Bool, not, List, [], ◌∷◌, ◌++◌, length, map, filter, take, get_or, set}
use Rattle.atomic_table.specs.Seated.{TableId}
use Rattle.zt_protocol.specs.Plain.{PlainCall}
use Rattle.std.specs.declared.cmp.Ordering.{Ordering}
use Rattle.zt_model.specs.Journal.{IsReplay, Journalled}
use Rattle.zt_model.specs.Rows.{Rows}
use Rattle.zt_model.specs.Transcript.{Each}
use Rattle.zt_laws.specs.Sound.{CallHasFirstIds}
use Rattle.zt_shared_value.specs.Passes.{Standing, mine}
use Rattle.zt_theorem_journal.specs.Dealt.{worker_of}
use Rattle.zt_shared.specs.Recorded.{Recorded}
use Rattle.zt_shared.specs.Sharing.{entries_of, pass_of}
use Rattle.zt_plans.specs.Plans.{numbered}
use Rattle.zt_dealing.specs.declared.dealing.Job.{Job}
use Rattle.zt_dealing.specs.declared.working.Done.{Done}

-- the calls that a pass has made, in order
abbrev pub calls_of : {K : Type 0} → Standing (Recorded K) → List (PlainCall K)
calls_of pass = map (λ x. x.1.call) (mine entries_of pass_of pass)

-- first ids are at least 1
abbrev pub HaveFirstIds : {K : Type 0} → List (ℕ × PlainCall K) → Type 0
HaveFirstIds calls = Each (λ x. CallHasFirstIds x.1) calls

-- the calls of one worker, each with the number of its line
abbrev pub part : {K : Type 0} → ℕ → ℕ → List (ℕ × PlainCall K) → List (ℕ × PlainCall K)
part workers worker calls = filter (λ x. worker_of workers x.1 == worker) calls

-- and those of the others
abbrev pub apart : {K : Type 0} → ℕ → ℕ → List (ℕ × PlainCall K) → List (ℕ × PlainCall K)
apart workers worker calls = filter (λ x. not (worker_of workers x.1 == worker)) calls

-- A pass of the table, which began with the value and has made these calls. Its number is at least that of its worker,
-- and below the count that it knows.
pub record HasMade {K : Type 0} (table : TableId) (opening : Recorded K) (worker : ℕ) (calls : List (PlainCall K)) (pass : Standing (Recorded K)) : Type 0 where
  pub table_is : pass.table ≡ table
  pub opening_is : pass.opening ≡ opening
  pub least : worker ≤ pass.number
  pub counted : pass.number < pass.known
  pub made : calls_of pass ≡ calls

-- what a worker is to do, of these calls
pub record IsJob {K : Type 0} (table : TableId) (opening : Recorded K) (workers : ℕ) (calls : List (ℕ × PlainCall K)) (worker : ℕ) (job : Job K) : Type 0 where
  pub fresh : HasMade table opening worker [] job.pass
  pub dealt : map numbered job.calls.items ≡ part workers worker calls
  pub first_ids : HaveFirstIds (map numbered job.calls.items)

-- a worker may begin with it
pub record MayWork {K : Type 0} (table : TableId) (job : Job K) : Type 0 where
  pub table_is : job.pass.table ≡ table
  pub new : calls_of job.pass ≡ []
  pub first_ids : HaveFirstIds (map numbered job.calls.items)

-- a pass has made the calls of the lines that were dealt to it
pub record HasDone {K : Type 0} (table : TableId) (opening : Recorded K) (dealt : ℕ → List (ℕ × PlainCall K)) (worker : ℕ) (done : Done K) : Type 0 where
  pub made : HasMade table opening worker (map (λ x. x.1) (dealt worker)) done.pass
  pub lines : done.lines.items ≡ map (λ x. x.0) (dealt worker)

-- a worker's job is done
abbrev pub IsDone : {K : Type 0} (table : TableId) (opening : Recorded K) (workers : ℕ) (calls : List (ℕ × PlainCall K)) (worker : ℕ) (done : Done K) → Type 0
IsDone table opening workers calls worker done = HasDone table opening (λ p. part workers p calls) worker done

-- the calls of a job were made by its pass
pub record Does {K : Type 0} (job : Job K) (done : Done K) : Type 0 where
  pub table : done.pass.table ≡ job.pass.table
  pub opening : done.pass.opening ≡ job.pass.opening
  pub number : done.pass.number ≡ job.pass.number
  pub known : done.pass.known ≡ job.pass.known
  pub made : calls_of done.pass ≡ map (λ x. x.1) (map numbered job.calls.items)
  pub lines : done.lines.items ≡ map (λ x. x.0) (map numbered job.calls.items)

-- ---- the lines of a journal

-- members with numbers, as far as there are both
abbrev pub with_lines : {A : Type 0} → List ℕ → List A → List (ℕ × A)
with_lines [] xs = []
with_lines (line ∷ lines) [] = []
with_lines (line ∷ lines) (x ∷ xs) = (line, x) ∷ with_lines lines xs

-- the entries of a pass
abbrev pub of_pass : {K : Type 0} → ℕ → List (Journalled K) → List (Journalled K)
of_pass p entries = filter (λ e. e.pass == p) entries

-- the worker's next line was taken
pub record NextLine (queues : List (List ℕ)) (old new : List ℕ) (worker line : ℕ) : Type 0 where
  pub there : worker < length queues
  pub one : new ≡ set old worker (get_or old worker 0 + 1)
  pub line_is : take (get_or old worker 0 + 1) (get_or queues worker []) ≡ take (get_or old worker 0) (get_or queues worker []) ++ line ∷ []

-- each pass's entries have the first lines of its queue, in order
pub record HaveLines {K : Type 0} (queues : List (List ℕ)) (entries : List (Journalled K)) (lines : List ℕ) : Type 0 where
  pub long : length lines ≡ length entries
  pub each : (p : ℕ) → p < length queues
      → map (λ x. x.0) (filter (λ x. x.1.pass == p) (with_lines lines entries)) ≡ take (length (of_pass p entries)) (get_or queues p [])

module _ {K : Type 0} (cmp : K → K → Ordering) (matching : K → K → Bool) where
  -- The journal is a replay from these rows, and of so many passes each has in it the calls that were dealt to it, in
  -- order, with their lines.
  pub record IsMadeByPasses (count : ℕ) (dealt : ℕ → List (ℕ × PlainCall K)) (rows : Rows K) (journal : List (Journalled K)) (lines : List ℕ) : Type 0 where
    pub long : length lines ≡ length journal
    pub replay : IsReplay cmp matching journal rows
    pub passes : Each (λ x. x.1.pass < count) (with_lines lines journal)
    pub parts : (p : ℕ) → p < count → map (λ x. (x.0, x.1.call)) (filter (λ x. x.1.pass == p) (with_lines lines journal)) ≡ dealt p

  -- each worker's entries of the journal are its calls in order, with their lines
  abbrev pub IsMadeByWorkers : (workers : ℕ) (calls : List (ℕ × PlainCall K)) (rows : Rows K) (journal : List (Journalled K)) (lines : List ℕ) → Type 0
  IsMadeByWorkers workers calls rows journal lines = IsMadeByPasses workers (λ p. part workers p calls) rows journal lines
