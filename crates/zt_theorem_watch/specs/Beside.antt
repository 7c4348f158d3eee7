-- A journal of workers and of a monitor, whose pass is drawn behind theirs.
use Rattle.std.specs.Prelude.{◌≡◌, ℕ, ◌+◌, ◌<◌, ◌==◌, Bool, List, [], ◌∷◌, ◌++◌, length, map, filter, slice_get, Option, Some, Ok, Err}
use Rattle.std.specs.declared.cmp.Ordering.{Ordering}
use Rattle.zt_protocol.specs.Plain.{NewSession, PlainCall, PlainEntry, PlainLine}
use Rattle.zt_protocol.specs.declared.errors.Refusal.{Refusal}
use Rattle.zt_model.specs.Journal.{Journalled}
use Rattle.zt_model.specs.Rows.{Rows}
use Rattle.zt_model.specs.Transcript.{Each}
use Rattle.zt_theorem_journal.specs.Alone.{Speaks, line_of_call}
use Rattle.zt_theorem_journal.specs.Asked.{AreVisible, rows_before, token_ask}
use Rattle.zt_theorem_journal.specs.Dealt.{numbered_from, worker_of}
use Rattle.zt_theorem_watch.specs.Tables.{PlainPoll, table_after}
use Rattle.zt_theorem_watch.specs.Watched.{Agrees, asks_from}

-- Each worker's entries of the journal, with the numbers of their lines, are its lines in order; and
-- those of the pass behind the workers' are the monitor's calls, all with the number 0.
pub record IsDealtBeside {K : Type 0} (workers first : ℕ) (calls monitor : List (PlainCall K)) (journal : List (ℕ × Journalled K)) : Type 0 where
  pub some : 0 < workers
  pub speak : Each Speaks calls
  pub passes : Each (λ x. x.1.pass < workers + 1) journal
  pub parts : (p : ℕ) → p < workers → map (λ x. (x.0, x.1.call)) (filter (λ x. x.1.pass == p) journal) ≡ filter (λ x. worker_of workers x.1 == p) (numbered_from first calls)
  pub own : map (λ x. (x.0, x.1.call)) (filter (λ x. x.1.pass == workers) journal) ≡ map {B = ℕ × PlainCall K} (λ c. (0, c)) monitor

-- the lines in the order of the journal, behind those that make the gateway and open faces
abbrev pub order_beside : {K : Type 0} → PlainLine K → List (PlainLine K) → List (ℕ × Journalled K) → List (ℕ × PlainLine K)
order_beside line makings journal = (1, line) ∷ (numbered_from 2 makings ++ map (λ x. (x.0, line_of_call x.1.call)) journal)

-- what they came to
abbrev pub answers_beside : {K : Type 0} → List (PlainEntry K) → List (ℕ × Journalled K) → List (ℕ × PlainEntry K)
answers_beside made journal = numbered_from 1 (Ok [] ∷ made) ++ map (λ x. (x.0, x.1.outcome)) journal

module _ {K : Type 0} (cmp : K → K → Ordering) (matching : K → K → Bool) (pass : ℕ) (g : Rows K) (journal : List (Journalled K)) where
  module _ (face : ℕ) (expr : Option K) where
    -- the poll's ask stands at its place of the journal, and where it wasn't refused the table is
    -- what the face sees there
    pub record IsPolled (number : ℕ) (table : List K) (poll : PlainPoll K) : Type 0 where
      pub entry : Journalled K
      pub there : slice_get journal poll.place ≡ Some entry
      pub by : entry.pass ≡ pass
      pub is_of : entry.call ≡ token_ask face number expr
      pub agrees : Agrees (AreVisible cmp matching face expr (rows_before cmp matching poll.place journal g) table) entry.outcome poll.outcome

    abbrev pub ArePolled : ℕ → List K → List (PlainPoll K) → Type 0
    ArePolled number table [] = Unit {0}
    ArePolled number table (poll ∷ polls) = IsPolled number (table_after cmp poll table) poll × ArePolled (number + 1) (table_after cmp poll table) polls

  -- the monitor's session has a face, and each of its polls was made
  pub record Monitors (count : ℕ) (expr : Option K) (calls : List (PlainCall K)) (polls : List (PlainPoll K)) : Type 0 where
    pub place : ℕ
    pub entry : Journalled K
    pub there : slice_get journal place ≡ Some entry
    pub by : entry.pass ≡ pass
    pub is_of : entry.call ≡ NewSession 1
    pub face : ℕ
    pub made : entry.made ≡ Some face
    pub calls_are : calls ≡ NewSession 1 ∷ asks_from face 1 count expr
    pub many : length polls ≡ count
    pub each : ArePolled face expr 1 [] polls

  -- the monitor's session was refused
  pub record MonitorsNothing (calls : List (PlainCall K)) (polls : List (PlainPoll K)) : Type 0 where
    pub place : ℕ
    pub entry : Journalled K
    pub there : slice_get journal place ≡ Some entry
    pub by : entry.pass ≡ pass
    pub refusal : Refusal
    pub refused : entry.outcome ≡ Err refusal
    pub calls_are : calls ≡ NewSession 1 ∷ []
    pub none_polled : polls ≡ []
