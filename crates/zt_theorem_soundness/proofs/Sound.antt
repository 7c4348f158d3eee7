-- The gateways of a fabric stay sound.
use Rattle.std.proofs.Common.{◌≡◌, ℕ, Bool, List}
use Rattle.std.specs.Cmp.{IsTotalOrder}
use Rattle.std.specs.declared.cmp.Ordering.{Ordering}
use Rattle.std.specs.declared.cmp.Ordering.TheVariants.{Equal}
use Rattle.zt_region.specs.declared.region.Region.{Region}
use Rattle.zt_region.specs.declared.region.WhatAmI.{WhatAmI}
use Rattle.zt_region.specs.declared.region.Zid.{Zid}
use Rattle.zt_protocol.specs.Plain.{PlainLine}
use Rattle.zt_model.specs.Fabric.{Fabric, Node, empty_fabric, entry_of, fabric_after, new_rows}
use Rattle.zt_laws.specs.Keeping.{AllKeepRight, FacesKeepRight}
use Rattle.zt_laws.specs.Sound.{HasFirstIds}
use Rattle.zt_laws.proofs.LinesOrder.{calls_nothing, in_order_empty}
use Rattle.zt_laws.proofs.Lists.{each_weaker}
use Rattle.zt_theorem_soundness.specs.Lines.{EachGatewayIs}
use Rattle.zt_theorem_soundness.specs.Sound.{IsSound}
use Rattle.zt_theorem_soundness.proofs.Calls.{closed_sound, opened_sound, sound_after_call}
use Rattle.zt_theorem_soundness.proofs.Lines.{IsLeftByCalls, each_after_line}

module _ {K : Type 0} (cmp : K → K → Ordering) (matching : K → K → Bool) where
  fresh_sound : (mode : WhatAmI) (zid : Zid) (regions : List Region) (timeout : ℕ) (refused : List (Region × Region)) → IsSound cmp matching (new_rows mode zid regions timeout refused)
  fresh_sound mode zid regions timeout refused = record {
    ordered = record { lists = record { faces_rise = tt; faces_made = tt; rows = tt; routed = tt; trees = tt; dictionary = tt }; told = tt };
    keeps = tt;
    held = tt;
    named = tt;
    routed = tt;
  }

  pub sound_start : EachGatewayIs cmp matching (IsSound cmp matching) empty_fabric
  sound_start = record { order = in_order_empty cmp matching; gateways = tt }

  pub sound_gateways_keep : (s : Fabric K) → EachGatewayIs cmp matching (IsSound cmp matching) s → AllKeepRight cmp matching s
  sound_gateways_keep s is = each_weaker (λ (node : Node K). IsSound cmp matching node.rows) (λ (node : Node K). FacesKeepRight cmp matching node.rows) (λ node sound. sound.keeps) s.gateways is.gateways

  module _ (total : IsTotalOrder cmp) (equal_is_same : (a b : K) → cmp a b ≡ Equal → a ≡ b) where
    pub sound_is_left : IsLeftByCalls cmp matching (IsSound cmp matching)
    sound_is_left = record {
      fresh = fresh_sound;
      opens = λ c g opens real ordered sound. opened_sound cmp matching total equal_is_same c g opens real sound;
      closes = λ n g ordered sound. closed_sound cmp matching total equal_is_same n g sound;
      calls = λ spent c g still accepted ordered sound. sound_after_call cmp matching total equal_is_same spent c g (calls_nothing cmp matching total c still) accepted sound;
    }

    pub sound_after_line : (line : PlainLine K) (s : Fabric K) → HasFirstIds line → EachGatewayIs cmp matching (IsSound cmp matching) s → EachGatewayIs cmp matching (IsSound cmp matching) (fabric_after cmp matching line (entry_of cmp matching line s) s)
    sound_after_line line s real is = each_after_line cmp matching (IsSound cmp matching) sound_is_left total line s real is
