-- Who wants a token, and who sees it: as promises read it, by words of their own. The machine goes by those of Wants and
-- Visible, and `zt_laws` proves that the two come to the same.
use Rattle.std.specs.Prelude.{Bool, true, ◌&&◌, ◌||◌, not, List, map, Some, None}
use Rattle.std.specs.List.{list_any}
use Rattle.std.specs.declared.cmp.Ordering.{Ordering}
use Rattle.zt_region.specs.declared.region.Region.{Region}
use Rattle.zt_region.specs.declared.region.Region.TheVariants.{Local, South}
use Rattle.zt_region.specs.declared.region.WhatAmI.TheVariants.{Client}
use Rattle.zt_region.specs.Admission.{admits}
use Rattle.zt_region.specs.Region.{is_north, region_eq, zid_eq}
use Rattle.zt_protocol.specs.Interest.{is_current, has_tokens}
use Rattle.zt_model.specs.Lists.{same}
use Rattle.zt_model.specs.Rows.{Face, InterestRow, Rows}

-- sessions and clients see the tokens of each region, and other faces those of each other region than their own
abbrev pub sees : Region → Region → Bool
sees Local source = true
sees (South id Client) source = true
sees own source = not (region_eq own source)

module _ {K : Type 0} (matching : K → K → Bool) where
  -- an interest in tokens concerns an expression if it names none, or one that the expression matches
  abbrev pub concerns : InterestRow K → K → Bool
  concerns interest e = has_tokens interest.options && elim interest.expr [ None ↦ true | Some k ↦ matching k e ]

  -- the interests that a face holds
  abbrev pub interests_held : Face K → List (InterestRow K)
  interests_held f = map (λ row. row.1) f.held

  -- one of them concerns the expression
  unfoldable pub is_interested : Face K → K → Bool
  is_interested f e = list_any (λ interest. concerns interest e) (interests_held f)

  -- a face to the north may be told of any expression, another of what it is interested in
  unfoldable pub may_hear : Face K → K → Bool
  may_hear f e = is_north f.region || is_interested f e

  -- to a face to the north the whole is owed, to another what an interest concerns that asked for what is there now too
  unfoldable pub is_owed : Face K → K → Bool
  is_owed f e = is_north f.region || list_any (λ interest. concerns interest e && is_current interest.mode) (interests_held f)

module _ {K : Type 0} (cmp : K → K → Ordering) where
  -- a face in a region of these declares the expression, or another router does
  abbrev pub stands_in : (Region → Bool) → Rows K → K → Bool
  stands_in regions g e =
      list_any (λ f. regions f.region && list_any (λ row. same cmp e row.1) f.live) g.faces
      || list_any (λ row. (regions row.region && same cmp e row.expr) && not (zid_eq row.source g.zid)) g.routed

  -- faces of a region see the expression
  unfoldable pub is_seen : Rows K → Region → K → Bool
  is_seen g own e = stands_in (sees own) g e

  -- and it stands in a region from which the admission table admits
  unfoldable pub is_seen_and_admitted : Rows K → Region → K → Bool
  is_seen_and_admitted g own e = stands_in (λ source. sees own source && admits g.refused source own) g e
