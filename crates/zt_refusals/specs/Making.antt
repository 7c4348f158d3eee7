-- Why a gateway isn't made, by its settings alone.
use Rattle.std.specs.Prelude.{Bool, ◌||◌, not, List, [], ◌∷◌}
use Rattle.std.specs.List.{list_any}
use Rattle.zt_region.specs.declared.region.Region.{Region}
use Rattle.zt_region.specs.declared.region.WhatAmI.{WhatAmI}
use Rattle.zt_protocol.specs.declared.errors.Refusal.TheVariants as refusal
use Rattle.zt_model.specs.Fabric.{is_without_trees_above}
use Rattle.zt_model.specs.Refusals.{Causes}
use Rattle.zt_model.specs.Strategy.{is_region_of}

-- a pair names a region that isn't listed
abbrev pub names_other_region : List Region → Region × Region → Bool
names_other_region regions pair = not (is_region_of regions pair.0) || not (is_region_of regions pair.1)

-- the causes of the line that makes a gateway, but for the number of gateways
abbrev pub making_causes : WhatAmI → List Region → List (Region × Region) → Causes
making_causes mode regions refused =
    (list_any (names_other_region regions) refused, refusal.NoSuchRegion)
    ∷ (list_any (is_without_trees_above mode) regions, refusal.RegionConflict)
    ∷ []
