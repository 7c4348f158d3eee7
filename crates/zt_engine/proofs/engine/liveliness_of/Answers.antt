use Rattle.std.proofs.Common.{◌≡◌, ℕ, Bool, [], Some, None, false, option_map, refl, sym, subst, ap, ◌∙◌}
use Rattle.std.specs.declared.cmp.Ordering.{Ordering}
use Rattle.zt_region.specs.declared.region.WhatAmI.{WhatAmI}
use Rattle.zt_region.specs.declared.region.Zid.{Zid}
use Rattle.zt_region.specs.South.{PlainSouth}
use Rattle.zt_protocol.specs.declared.errors.CallError.{CallError}
use Rattle.zt_protocol.specs.declared.errors.CallError.TheVariants.{Refused}
use Rattle.zt_gateway.specs.Settings.{Settings, line_of}
use Rattle.zt_model.specs.Fabric.{line_causes, empty_fabric}
use Rattle.zt_model.specs.Refusals.{first_cause}
use Rattle.zt_engine.proofs.engine.liveliness_of.Goals as goal

abbrev plain : WhatAmI → Zid → PlainSouth → ℕ → Settings
plain mode zid south timeout = record { mode = mode; zid = zid; regions = []; south = south; name = None; timeout = timeout; refused = [] }

-- a gateway without south regions and without refused pairs is never refused
making_is_accepted : {K : Type 0} (cmp : K → K → Ordering) (matching : K → K → Bool) (mode : WhatAmI) (zid : Zid) (south : PlainSouth) (timeout : ℕ)
    → first_cause (line_causes cmp matching false (line_of (plain mode zid south timeout)) empty_fabric) ≡ None
unfolding line_causes first_cause
making_is_accepted cmp matching mode zid south timeout = refl

impossible : {K : Type 0} (cmp : K → K → Ordering) (matching : K → K → Bool) (s : Settings) (mode : WhatAmI) (zid : Zid) (south : PlainSouth) (timeout : ℕ) (error : CallError)
    → s ≡ plain mode zid south timeout → option_map Refused (first_cause (line_causes cmp matching false (line_of s) empty_fabric)) ≡ Some error → ⊥
impossible cmp matching s mode zid south timeout error e h =
    let made : first_cause (line_causes cmp matching false (line_of s) empty_fabric) ≡ None =
    subst (λ (t : Settings). first_cause (line_causes cmp matching false (line_of t) empty_fabric) ≡ None) (sym e) (making_is_accepted cmp matching mode zid south timeout) in
    let none : None ≡ Some error = ap (option_map Refused) (sym made) ∙ h in
    cc

pub unreachable-requires : goal.unreachable-requires
unreachable-requires g c =
    impossible g.K.Ord.cmp g.K.Key.matching c.timeout-builder.result c.args.node.mode c.args.node.zid None c.args.timeout c.in-Err.field-0
    (c.timeout-builder.ensures ∙ ap (λ (s : Settings). record s { timeout = c.args.timeout }) c.new.ensures) c.in-Err.ensures.refused
