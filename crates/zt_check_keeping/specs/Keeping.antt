-- What is looked at after a turn: pairs of a face and an expression, by the number of the gateway.
use Rattle.std.specs.Prelude.{ℕ, Bool, true, ◌==◌, ◌&&◌, ◌||◌, not, if◌then◌else◌, List, None, Some}
use Rattle.std.specs.List.{list_all}
use Rattle.std.specs.declared.cmp.Ordering.{Ordering}
use Rattle.zt_region.specs.declared.region.Region.{Region}
use Rattle.zt_region.specs.Region.{region_eq}
use Rattle.zt_model.specs.Fabric.{Fabric}
use Rattle.zt_model.specs.Lists.{nth}
use Rattle.zt_model.specs.Parts.{is_routed}
use Rattle.zt_model.specs.Rows.{Face, Rows}
use Rattle.zt_model.specs.Seen.{is_owed, is_seen, is_seen_and_admitted, may_hear}
use Rattle.zt_model.specs.Visible.{keeps}
use Rattle.zt_check_keeping.specs.Owing.{keeps_all}
use Rattle.zt_check_keeping.specs.declared.keeping.Bound.{Bound}
use Rattle.zt_check_keeping.specs.declared.keeping.Bound.TheVariants.{Upper, Lower}

-- a test of a gateway's rows, where there is one
abbrev pub at_gateway : {K : Type 0} → Fabric K → ℕ → (Rows K → Bool) → Bool
at_gateway s n test = elim (nth n s.gateways) [ None ↦ true | Some node ↦ test node.rows ]

-- a test of each face of a number outside router regions
abbrev pub at_face : {K : Type 0} → ℕ → (Rows K → Face K → Bool) → Rows K → Bool
at_face n test g = list_all (λ f. (not (n == f.number) || is_routed g f) || test g f) g.faces

module _ {K : Type 0} (cmp : K → K → Ordering) (matching : K → K → Bool) where
  -- the face keeps the expression only if it is visible to it and it may hear of it
  abbrev pub keeps_no_more_of : Rows K → Face K → K → Bool
  keeps_no_more_of g f e = (may_hear matching f e && is_seen cmp g f.region e) || not (keeps cmp f e)

  -- the face keeps the expression if it is admitted and owed to it
  abbrev pub keeps_no_less_of : Rows K → Face K → K → Bool
  keeps_no_less_of g f e = (not (is_owed matching f e) || not (is_seen_and_admitted cmp g f.region e)) || keeps cmp f e

  -- the expression is shown to faces of a region, as the one bound asks or the other
  abbrev pub is_shown : Bound → Rows K → Region → K → Bool
  is_shown Upper g own e = is_seen cmp g own e
  is_shown Lower g own e = is_seen_and_admitted cmp g own e

  abbrev pub keeps_bound : Bound → Rows K → Face K → K → Bool
  keeps_bound Upper g f e = keeps_no_more_of g f e
  keeps_bound Lower g f e = keeps_no_less_of g f e

  -- outside router regions
  abbrev pub keeps_rightly : Bound → Rows K → Face K → K → Bool
  keeps_rightly bound g f e = is_routed g f || keeps_bound bound g f e

  -- the expression is shown to faces of a region, where that is known of faces of another
  abbrev pub is_shown_beside : Bound → Region → Bool → Rows K → Region → K → Bool
  is_shown_beside bound other shown g own e = if region_eq other own then shown else is_shown bound g own e

  -- a face that keeps the expression, or that it is owed to, breaks the bound
  abbrev pub breaks_where : Bound → Bool → Face K → K → Bool
  breaks_where Upper shown f e = not shown || not (may_hear matching f e)
  breaks_where Lower shown f e = shown && not (keeps cmp f e)

  -- and is outside router regions
  abbrev pub breaks : Bound → Region → Bool → Rows K → K → Face K → Bool
  breaks bound other shown g e f = not (is_routed g f) && breaks_where bound (is_shown_beside bound other shown g f.region e) f e

  -- all faces of a gateway keep of the expression what they should
  abbrev pub faces_keep_rightly : Bound → Rows K → K → Bool
  faces_keep_rightly bound g e = list_all (λ f. keeps_rightly bound g f e) g.faces

  -- of each of these expressions, by the number of their gateway
  abbrev pub changed_are_kept : Bound → Fabric K → List (ℕ × K) → Bool
  changed_are_kept bound s tokens = list_all (λ t. at_gateway s t.0 (λ g. faces_keep_rightly bound g t.1)) tokens

  -- one face of a gateway keeps of an expression what it should
  abbrev pub heard_is_kept : Bound → Fabric K → ℕ × ℕ × K → Bool
  heard_is_kept bound s t = at_gateway s t.0 (at_face t.1 (λ g f. keeps_bound bound g f t.2))

  abbrev pub heard_are_kept : Bound → Fabric K → List (ℕ × ℕ × K) → Bool
  heard_are_kept bound s tokens = list_all (heard_is_kept bound s) tokens

  -- the face may hear of all that it keeps
  abbrev pub may_hear_all : Face K → Bool
  may_hear_all f = list_all (λ row. may_hear matching f row.1) f.told

  abbrev pub unheld_may_hear : Fabric K → ℕ × ℕ → Bool
  unheld_may_hear s at = at_gateway s at.0 (at_face at.1 (λ g f. may_hear_all f))

  -- a new face keeps all that is owed to it
  abbrev pub opened_keeps_all : Fabric K → ℕ × ℕ → Bool
  opened_keeps_all s at = at_gateway s at.0 (at_face at.1 (λ g f. keeps_all cmp matching g f None))

  -- one that begins to hold an interest keeps what this concerns
  abbrev pub holder_keeps : Fabric K → ℕ × ℕ × ℕ → Bool
  holder_keeps s at = at_gateway s at.0 (at_face at.1 (λ g f. keeps_all cmp matching g f (Some at.2)))

  -- what a turn may have changed is kept within the one bound, by its tokens, the messages heard, and the faces that hold
  -- an interest no more
  abbrev pub are_no_more : Fabric K → List (ℕ × K) → List (ℕ × ℕ × K) → List (ℕ × ℕ) → Bool
  are_no_more s tokens heard unheld =
      (changed_are_kept Upper s tokens && heard_are_kept Upper s heard) && list_all (unheld_may_hear s) unheld

  -- and within the other, by its tokens, the messages heard, new faces and new interests
  abbrev pub are_no_less : Fabric K → List (ℕ × K) → List (ℕ × ℕ × K) → List (ℕ × ℕ) → List (ℕ × ℕ × ℕ) → Bool
  are_no_less s tokens heard opened held =
      (changed_are_kept Lower s tokens && heard_are_kept Lower s heard) && (list_all (opened_keeps_all s) opened && list_all (holder_keeps s) held)
