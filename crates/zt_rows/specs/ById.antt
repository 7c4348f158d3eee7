-- Rows by id, in order.
use Rattle.std.specs.Prelude.{◌≡◌, ℕ}
use Rattle.std.specs.List.{AllByRecursion}
use Rattle.std.specs.List.Sorted.{IsStrictlySortedBy}
use Rattle.std.specs.Map.{keys_of}
use Rattle.std.specs.Ordering.{nat_cmp}
use Rattle.std.specs.declared.cmp.Ordering.TheVariants.{Greater}
use Rattle.zt_model.specs.Rows.{ById}

-- rows in order of id, each id once
abbrev pub IsInOrder : {A : Type 0} → ById A → Type 0
IsInOrder rows = IsStrictlySortedBy nat_cmp (keys_of rows)

-- an id above those of all rows
abbrev pub IsAbove : {A : Type 0} → ℕ → ById A → Type 0
IsAbove id rows = AllByRecursion (λ k. nat_cmp id k ≡ Greater) (keys_of rows)
