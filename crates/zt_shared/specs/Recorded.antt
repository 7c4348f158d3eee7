-- A gateway with its journal as its callers see it, and what a call makes of it.
use Rattle.std.specs.Prelude.{◌≡◌, ℕ, Bool, List, [], ◌∷◌, ◌++◌, Option, Some, None, Result, Ok, Err}
use Rattle.std.specs.Global.{Vec}
use Rattle.std.specs.declared.cmp.Ordering.{Ordering}
use Rattle.zt_gateway.specs.Running.{Running}
use Rattle.zt_model.specs.Journal.{IsReplay, Journalled, cause_of, made_by, outcome_of, rows_after, rows_replayed}
use Rattle.zt_model.specs.Rows.{Rows}
use Rattle.zt_protocol.specs.Plain.{PlainCall, PlainEntry, plain_call}
use Rattle.zt_protocol.specs.declared.entries.Sent.{Sent}
use Rattle.zt_protocol.specs.declared.errors.Refusal.{Refusal}
use Rattle.zt_shared.specs.declared.entries.JournalEntry.{JournalEntry}

-- what a call came to
abbrev pub plain_outcome : {K : Type 0} → Result (Vec (Sent K)) Refusal → PlainEntry K
plain_outcome outcome = elim outcome [ Ok sent ↦ Ok sent.items | Err refusal ↦ Err refusal ]

-- an entry without where its lists lie in memory
abbrev pub journalled : {K : Type 0} → JournalEntry K → Journalled K
journalled entry = record { pass = entry.pass; call = plain_call entry.call; made = entry.made; outcome = plain_outcome entry.outcome }

-- a gateway with its journal: as it was handed in, as it stands, and the calls between, the oldest first
pub record Recorded (K : Type 0) : Type 0 where
  pub opening : Running K
  pub gateway : Running K
  pub entries : List (Journalled K)

-- a gateway whose journal begins
abbrev pub opened : {K : Type 0} → Running K → Recorded K
opened gateway = record { opening = gateway; gateway = gateway; entries = [] }

module _ {K : Type 0} (cmp : K → K → Ordering) (matching : K → K → Bool) where
  -- the faces made and the outcomes of the journal, and the rows that the gateway has, are those of its replay from the
  -- gateway as it was handed in; and no message waits
  pub record IsRecord (j : Recorded K) : Type 0 where
    pub replay : IsReplay cmp matching j.entries j.opening.rows
    pub rows : j.gateway.rows ≡ rows_replayed cmp matching j.entries j.opening.rows
    pub opened_quiet : j.opening.waiting ≡ []
    pub quiet : j.gateway.waiting ≡ []

  -- the entry of a call
  abbrev pub entry_of : ℕ → PlainCall K → Rows K → Journalled K
  entry_of pass c g = record { pass = pass; call = c; made = made_by cmp matching c g; outcome = outcome_of cmp matching c g }

  -- the gateway after a call, with its entry
  abbrev pub entered : ℕ → PlainCall K → Recorded K → Recorded K
  entered pass c j = record {
    opening = j.opening;
    gateway = record { rows = rows_after cmp matching c j.gateway.rows; waiting = [] };
    entries = j.entries ++ entry_of pass c j.gateway.rows ∷ [];
  }

  -- what a caller is told of a call: the face that it made, or why it was refused
  abbrev pub answer_of : PlainCall K → Rows K → Result (Option ℕ) Refusal
  answer_of c g = elim (cause_of cmp matching c g) [ None ↦ Ok (made_by cmp matching c g) | Some refusal ↦ Err refusal ]
