-- A gateway that many passes call: what a call, a look and the closing tell of its journal.
use Rattle.std.specs.Prelude.{◌≡◌, ℕ, Bool, List, Option, Result, Ok, Err, length}
use Rattle.std.specs.declared.cmp.Ordering.{Ordering}
use Rattle.zt_gateway.specs.Running.{Running}
use Rattle.zt_model.specs.Journal.{IsReplay, Journalled}
use Rattle.zt_shared_value.specs.Account.{AccountsForAll}
use Rattle.zt_shared_value.specs.Passes.{Adds, Finds, Standing, pass_looked}
use Rattle.zt_protocol.specs.Plain.{PlainCall}
use Rattle.zt_protocol.specs.declared.errors.Refusal.{Refusal}
use Rattle.zt_shared.specs.Recorded.{Recorded}
use Rattle.zt_shared.specs.declared.entries.Receipt.{Receipt}

abbrev pub entries_of : {K : Type 0} → Recorded K → List (Journalled K)
entries_of j = j.entries

abbrev pub opening_of : {K : Type 0} → Recorded K → Running K
opening_of j = j.opening

abbrev pub pass_of : {K : Type 0} → Journalled K → ℕ
pass_of entry = entry.pass

-- what the caller of an entry's call is told: the face that it made, or why it was refused
abbrev pub answered : {K : Type 0} → Journalled K → Result (Option ℕ) Refusal
answered entry = elim entry.outcome [ Ok sent ↦ Ok entry.made | Err refusal ↦ Err refusal ]

-- the receipt tells of the entry, which stands at the place
pub record Tells {K : Type 0} (place : ℕ) (entry : Journalled K) (receipt : Receipt) : Type 0 where
  pub placed : receipt.place ≡ place
  pub answer : receipt.answer ≡ answered entry

-- the pass had the gateway, whose journal goes on from what the pass had found before
abbrev pub FindsJournal : {K : Type 0} → Standing (Recorded K) → Recorded K → Type 0
FindsJournal before found = Finds entries_of pass_of before found

module _ {K : Type 0} (cmp : K → K → Ordering) (matching : K → K → Bool) where
  -- the faces made and the outcomes of what the pass found are those of a replay from the opening
  abbrev pub HasReplay : Standing (Recorded K) → Type 0
  HasReplay pass = IsReplay cmp matching pass.found.entries pass.opening.opening.rows

  -- The pass made the call: an entry of it was added, which the receipt tells of, and the pass then has what the
  -- journal was with it.
  pub record Enters (call : PlainCall K) (receipt : Receipt) (before after : Standing (Recorded K)) : Type 0 where
    pub entry : Journalled K
    pub adds : Adds entries_of pass_of before after receipt.place entry
    pub by : entry.pass ≡ before.number
    pub is_of : entry.call ≡ call
    pub answer : receipt.answer ≡ answered entry
    pub replay : HasReplay after

  -- The pass read the journal: it then has it, and has seen its length.
  pub record HasRead (before after : Standing (Recorded K)) : Type 0 where
    pub finds : FindsJournal before after.found
    pub looked : after ≡ pass_looked (length after.found.entries) (record before { found = after.found })
    pub replay : HasReplay after

  -- The journal at the end accounts for all the passes, and is a replay from the gateway as it was handed in.
  pub record IsWholeJournal (journal : List (Journalled K)) (passes : List (Standing (Recorded K))) : Type 0 where
    pub last : Recorded K
    pub entries : journal ≡ last.entries
    pub accounts : AccountsForAll entries_of pass_of opening_of last passes
    pub replay : IsReplay cmp matching journal last.opening.rows
