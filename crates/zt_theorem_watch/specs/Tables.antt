-- What polls of a table found, and the table that follows from what is printed of them.
use Rattle.std.specs.Prelude.{ℕ, not, List, [], ◌∷◌, Result, Ok, Err, filter}
use Rattle.std.specs.declared.cmp.Ordering.{Ordering}
use Rattle.zt_protocol.specs.declared.errors.Refusal.{Refusal}
use Rattle.zt_model.specs.Lists.{is_among, same, with_key}

-- A poll whose ask stands at the place of a journal: the keys that the table gained and those that
-- it lost there, or why the ask was refused.
pub record PlainPoll (K : Type 0) : Type 0 where
  pub place : ℕ
  pub outcome : Result (List K × List K) Refusal

module _ {K : Type 0} (cmp : K → K → Ordering) where
  -- a table after lines of keys that joined it
  abbrev pub with_joined : List K → List K → List K
  with_joined [] table = table
  with_joined (key ∷ keys) table = with_joined keys (with_key cmp key table)

  -- and after lines of keys that left it
  abbrev pub without_left : List K → List K → List K
  without_left [] table = table
  without_left (key ∷ keys) table = without_left keys (filter (λ e. not (same cmp key e)) table)

  -- a table after the lines of a poll: a refused one has none
  abbrev pub table_after : PlainPoll K → List K → List K
  table_after poll table = elim poll.outcome [
    | Ok keys ↦ without_left keys.1 (with_joined keys.0 table)
    | Err refusal ↦ table
  ]

  -- and after the lines of many
  abbrev pub tables_after : List (PlainPoll K) → List K → List K
  tables_after [] table = table
  tables_after (poll ∷ polls) table = tables_after polls (table_after poll table)

  -- the keys that others lack
  abbrev pub lacked_by : List K → List K → List K
  lacked_by others keys = filter (λ e. not (is_among cmp e others)) keys
