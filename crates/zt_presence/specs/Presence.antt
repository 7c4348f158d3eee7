-- A monitor as its callers see it, and how a table follows another.
use Rattle.std.specs.Prelude.{ℕ, ◌+◌, not, List, [], ◌∷◌, Option, Some, None, filter}
use Rattle.std.specs.declared.cmp.Ordering.{Ordering}
use Rattle.zt_laws.specs.Order.{InKeyOrder}
use Rattle.zt_model.specs.Lists.{is_among}
use Rattle.zt_protocol.specs.Plain.{PlainCall}
use Rattle.zt_theorem_journal.specs.Asked.{token_ask}

-- A monitor: its face, how many polls it made, one more than the place of the last entry that it
-- made, the expression that it asks for, where there is one, and the table that was found last.
pub record Presence (K : Type 0) : Type 0 where
  pub face : ℕ
  pub polls : ℕ
  pub next_place : ℕ
  pub expr : Option K
  pub table : List K

-- the ask of a monitor's next poll, under the number of that poll
abbrev pub next_ask : {K : Type 0} → Presence K → PlainCall K
next_ask monitor = token_ask monitor.face (monitor.polls + 1) monitor.expr

-- the monitor after a poll whose entry stands at the place, with this table
abbrev pub polled : {K : Type 0} → ℕ → List K → Presence K → Presence K
polled place table monitor = record monitor {
  polls = monitor.polls + 1;
  next_place = place + 1;
  table = table;
}

-- the key that is there, or none
abbrev pub listed : {K : Type 0} → Option K → List K
listed key = elim key [ None ↦ [] | Some e ↦ e ∷ [] ]

module _ {K : Type 0} (cmp : K → K → Ordering) where
  -- the keys that others lack
  abbrev pub beyond : List K → List K → List K
  beyond others keys = filter (λ e. not (is_among cmp e others)) keys

  -- Keys stand in order, each once.
  pub record IsTable (keys : List K) : Type 0 where
    pub ordered : InKeyOrder cmp keys
