-- A gateway as it is made.
use Rattle.std.proofs.Common.{◌≡◌, ℕ, Bool, false, List, refl}
use Rattle.std.specs.declared.cmp.Ordering.{Ordering}
use Rattle.zt_region.specs.declared.region.Region.{Region}
use Rattle.zt_region.specs.declared.region.WhatAmI.{WhatAmI}
use Rattle.zt_region.specs.declared.region.Zid.{Zid}
use Rattle.zt_theorem_soundness.specs.Sound.{IsSound}
use Rattle.zt_model.specs.Fabric.{line_causes, empty_fabric, new_rows}
use Rattle.zt_model.specs.Refusals.{first_cause}
use Rattle.zt_refusals.specs.Making.{making_causes}
use Rattle.zt_gateway.specs.Settings.{Settings, line_of}

module _ {K : Type 0} (cmp : K → K → Ordering) (matching : K → K → Bool) where
  -- a gateway of no fabric is refused by its settings alone
  pub causes_alone : (s : Settings) → first_cause (making_causes s.mode s.regions s.refused) ≡ first_cause (line_causes cmp matching false (line_of s) empty_fabric)
  unfolding line_causes first_cause
  causes_alone s = refl

  -- a gateway without faces is sound
  pub fresh_is_sound : (mode : WhatAmI) (zid : Zid) (regions : List Region) (timeout : ℕ) (refused : List (Region × Region)) → IsSound cmp matching (new_rows mode zid regions timeout refused)
  fresh_is_sound mode zid regions timeout refused = record {
    ordered = record { lists = record { faces_rise = tt; faces_made = tt; rows = tt; routed = tt; trees = tt; dictionary = tt }; told = tt };
    keeps = tt;
    held = tt;
    named = tt;
    routed = tt;
  }
