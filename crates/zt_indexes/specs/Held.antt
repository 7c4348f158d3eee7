-- Where counts by region are held.
--     counts_of counts     the counts: none, those of one region, or those in a box
use Rattle.std.specs.Prelude.{ℕ, List, [], ◌∷◌}
use Rattle.zt_region.specs.declared.region.Region.{Region}
use Rattle.zt_indexes.specs.declared.regions.Counts.{Counts}
use Rattle.zt_indexes.specs.declared.regions.Counts.TheVariants.{Empty, One, More}

abbrev pub counts_of : Counts → List (Region × ℕ)
counts_of Empty = []
counts_of (One row) = row ∷ []
counts_of (More rows) = rows.value.items
