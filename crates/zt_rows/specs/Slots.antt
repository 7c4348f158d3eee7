-- What stands in a place.
use Rattle.std.specs.Prelude.{ℕ, Option, Some, None}
use Rattle.zt_rows.specs.declared.place.Slot.{Slot}
use Rattle.zt_rows.specs.declared.place.Slot.TheVariants.{Taken, Empty}

-- the id of a place, and the row that stands there, if any
abbrev pub id_and_row : {A : Type 0} → Slot A → ℕ × Option A
id_and_row (Taken id row) = (id, Some row)
id_and_row (Empty id) = (id, None)
