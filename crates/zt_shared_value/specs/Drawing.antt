-- What comes of an attempt to draw a number.
use Rattle.std.specs.Prelude.{◌≡◌, ℕ, ◌<◌, ◌≤◌}
use Rattle.atomic_table.specs.Seated.{TableId}
use Rattle.zt_shared_value.specs.declared.part.Part.{Part}
use Rattle.zt_shared_value.specs.declared.steps.Drawn.{Drawn}
use Rattle.zt_shared_value.specs.declared.steps.Drawn.TheVariants.{Made, Found}
use Rattle.zt_shared_value.specs.Plays.{Sat, alone, part_drawn, part_made, part_counted}

-- the pass keeps the number, and the seat that was made has it; or the pass knows the count that was
-- found
abbrev pub Draws : {S : Type 0} → TableId → ℕ → Part S → Sat S → Drawn S → Type 0
Draws table number p after (Made seat) =
    (after ≡ alone (part_drawn number p)) × (seat.table_id ≡ table)
    × (seat.me ≡ alone (part_made number p))
Draws table number p after (Found count) =
    (after ≡ alone (part_counted count p)) × (p.known < count) × (count ≤ 4294967295)
