-- Lists of rows in the order of their keys. Beside std's words for entries in order (`put`, `find`, `where_key`, `is_sorted`):
--     same cmp a b                  the two keys tie
--     without cmp key rows          the rows but that under the key
--     row_at cmp key rows           the row under the key, with the key that it stands under
--     place cmp key rows            where the row under the key stands, or would go
use Rattle.std.specs.Prelude.{ℕ, suc, Bool, not, if◌then◌else◌, List, [], ◌∷◌, Option, Some, None, Result, Ok, Err}
use Rattle.std.specs.declared.cmp.Ordering.{Ordering}
use Rattle.std.specs.Ordering.{eq_by_cmp}
use Rattle.std.specs.FinMap.Entries.{where_key, by_order}

abbrev pub same : {P : Type 0} → (P → P → Ordering) → P → P → Bool
same cmp a b = eq_by_cmp cmp a b

module _ {P X : Type 0} (cmp : P → P → Ordering) where
  abbrev pub without : P → List (P × X) → List (P × X)
  without key rows = where_key cmp (λ k. not (same cmp key k)) rows

  abbrev pub row_at : P → List (P × X) → Option (P × X)
  row_at key [] = None
  row_at key (row ∷ rows) = if same cmp key row.0 then Some row else row_at key rows

-- a place one further on
abbrev pub next_place : Result ℕ ℕ → Result ℕ ℕ
next_place (Ok i) = Ok (suc i)
next_place (Err i) = Err (suc i)

-- where the row under the key stands among rows in order, or would go
abbrev pub place : {P X : Type 0} → (P → P → Ordering) → P → List (P × X) → Result ℕ ℕ
place cmp key [] = Err 0
place cmp key (row ∷ rows) = by_order (cmp key row.0) (Err 0) (Ok 0) (next_place (place cmp key rows))
