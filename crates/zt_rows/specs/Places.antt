-- Rows in places under rising ids. The place of a row that is gone is empty.
use Rattle.std.specs.Prelude.{◌≡◌, true, [], ◌∷◌, Option, Some, None}
use Rattle.std.specs.FinMap.Entries.{is_sorted}
use Rattle.std.specs.Ordering.{nat_cmp}
use Rattle.zt_model.specs.Rows.{ById}

module _ {A : Type 0} where
  -- the rows that stand in places
  abbrev pub rows_in : ById (Option A) → ById A
  rows_in [] = []
  rows_in ((id, None) ∷ places) = rows_in places
  rows_in ((id, Some row) ∷ places) = (id, row) ∷ rows_in places

  -- ids rise from place to place
  abbrev pub AreRising : ById (Option A) → Type 0
  AreRising places = is_sorted nat_cmp places ≡ true
