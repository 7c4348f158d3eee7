-- Why lines are refused: the causes of each kind in turn.
use Rattle.std.proofs.Common.{◌≡◌, ℕ, ◌+◌, Bool, true, false, ◌&&◌, ◌||◌, not, nat_le, length, List, [], ◌∷◌, ◌++◌, Option, Some, None, is_none, is_some, refl, ap, sym, ◌∙◌}
use Rattle.std.specs.List.{list_any}
use Rattle.std.specs.declared.cmp.Ordering.{Ordering}
use Rattle.zt_region.specs.declared.region.Bound.{Bound}
use Rattle.zt_region.specs.declared.region.Region.{Region}
use Rattle.zt_region.specs.declared.region.WhatAmI.{WhatAmI}
use Rattle.zt_region.specs.declared.region.Zid.{Zid}
use Rattle.zt_region.specs.South.{PlainSouth}
use Rattle.zt_protocol.specs.Plain.{PlainCall, PlainLine, Trees, Gateway, Session, Face as FaceLine, Link as LinkLine, Unlink, Step, Speak, Moment, SetTreesAt}
use Rattle.zt_protocol.specs.declared.errors.Refusal.{Refusal}
use Rattle.zt_protocol.specs.declared.errors.Refusal.TheVariants as refusal
use Rattle.zt_model.specs.Fabric.{CallAt, Fabric, line_causes, call_face, call_of, causes_of_call, is_full, is_linked_face, is_open_link, is_region_of, is_unknown_gateway, line_spends_ids}
use Rattle.zt_model.specs.Hat.{hat_of}
use Rattle.zt_model.specs.Journal.{cause_of}
use Rattle.zt_model.specs.Linking.{closes_loop, is_end, is_refused_end, link_ends, oldest}
use Rattle.zt_model.specs.Lists.{is_some_and, nth}
use Rattle.zt_model.specs.Refusals.{Causes, GREATEST_NUMBER, first_cause, is_north_taken, spends_ids}
use Rattle.zt_refusals.specs.Making.{making_causes}
use Rattle.zt_links.specs.Lines.{cause_at, cause_if, cause_of_line, or_cause}

one_cause : (b : Bool) (r : Refusal) (later : Causes) → first_cause ((b, r) ∷ later) ≡ or_cause (cause_if b r) (first_cause later)
unfolding first_cause
one_cause true r later = refl
one_cause false r later = refl

causes-append : (xs ys : Causes) → first_cause (xs ++ ys) ≡ or_cause (first_cause xs) (first_cause ys)
unfolding first_cause
causes-append [] ys = refl
causes-append ((true, r) ∷ xs) ys = refl
causes-append ((false, r) ∷ xs) ys = causes-append xs ys

last_cause : (b : Bool) (r : Refusal) → first_cause ((b, r) ∷ []) ≡ cause_if b r
unfolding first_cause
last_cause true r = refl
last_cause false r = refl

module _ {K : Type 0} (cmp : K → K → Ordering) (matching : K → K → Bool) where
  called_cause : (at : Option (CallAt K)) → first_cause (causes_of_call cmp matching (is_some_and at (λ at. spends_ids cmp matching at.call at.rows)) at) ≡ cause_at cmp matching at
  unfolding first_cause cause_of
  called_cause None = refl
  called_cause (Some at) = refl

  pub gateway_cause : (mode : WhatAmI) (zid : Zid) (regions : List Region) (south : PlainSouth) (name : Option (List ℕ)) (timeout : ℕ) (refused : List (Region × Region)) (s : Fabric K)
      → cause_of_line cmp matching (Gateway mode zid regions south name timeout refused) s
      ≡ or_cause (first_cause (making_causes mode regions refused)) (cause_if (is_full s.gateways) refusal.NumbersSpent)
  unfolding cause_of_line line_causes
  gateway_cause mode zid regions south name timeout refused s =
      causes-append (making_causes mode regions refused) ((is_full s.gateways, refusal.NumbersSpent) ∷ [])
      ∙ ap (or_cause (first_cause (making_causes mode regions refused))) (last_cause (is_full s.gateways) refusal.NumbersSpent)

  pub session_cause : (gateway first : ℕ) (s : Fabric K)
      → cause_of_line cmp matching (Session gateway first) s ≡ or_cause (cause_if (is_unknown_gateway s gateway) refusal.UnknownGateway) (cause_if (is_full s.faces) refusal.NumbersSpent)
  unfolding cause_of_line line_causes
  session_cause gateway first s = one_cause _ _ _ ∙ ap (or_cause _) (last_cause _ _)

  pub face_cause : (gateway : ℕ) (mode : WhatAmI) (zid : Zid) (region : Region) (bound : Bound) (first : ℕ) (s : Fabric K)
      → (let line = FaceLine gateway mode zid region bound first in
      cause_of_line cmp matching line s
      ≡ or_cause (cause_if (is_unknown_gateway s gateway) refusal.UnknownGateway) (or_cause (cause_at cmp matching (call_of line s)) (cause_if (is_full s.faces) refusal.NumbersSpent)))
  unfolding cause_of_line line_causes
  face_cause gateway mode zid region bound first s =
      let at = call_of (FaceLine gateway mode zid region bound first) s in
      one_cause _ _ _ ∙ ap (or_cause _) (causes-append (causes_of_call cmp matching (is_some_and at (λ at. spends_ids cmp matching at.call at.rows)) at) _ ∙ ap (λ o. or_cause o (first_cause ((is_full s.faces, refusal.NumbersSpent) ∷ []))) (called_cause at) ∙ ap (or_cause (cause_at cmp matching at)) (last_cause _ _))

  pub unlink_cause : (link : ℕ) (s : Fabric K) → cause_of_line cmp matching (Unlink link) s ≡ cause_if (not (is_open_link s link)) refusal.UnknownLink
  unfolding cause_of_line line_causes
  unlink_cause link s = last_cause _ _

  pub step_cause : (link : ℕ) (back : Bool) (s : Fabric K)
      → cause_of_line cmp matching (Step link back) s
      ≡ or_cause (cause_if (not (is_open_link s link)) refusal.UnknownLink)
      (or_cause (cause_if (not (is_some_and (nth link s.links) (λ l. is_some (oldest s l back)))) refusal.EmptyLink) (cause_at cmp matching (call_of (Step link back) s)))
  unfolding cause_of_line line_causes
  step_cause link back s = one_cause _ _ _ ∙ ap (or_cause _) (one_cause _ _ _ ∙ ap (or_cause _) (called_cause (call_of (Step link back) s)))

  pub speak_cause : (call : PlainCall K) (s : Fabric K)
      → cause_of_line cmp matching (Speak call) s
      ≡ or_cause (cause_if (is_none (call_of (Speak call) s)) refusal.UnknownFace)
      (or_cause (cause_if (is_linked_face s (call_face call)) refusal.LinkedFace) (cause_at cmp matching (call_of (Speak call) s)))
  unfolding cause_of_line line_causes
  speak_cause call s = one_cause _ _ _ ∙ ap (or_cause _) (one_cause _ _ _ ∙ ap (or_cause _) (called_cause (call_of (Speak call) s)))

  pub moment_cause : (gateway now : ℕ) (s : Fabric K)
      → cause_of_line cmp matching (Moment gateway now) s
      ≡ or_cause (cause_if (is_unknown_gateway s gateway) refusal.UnknownGateway) (cause_at cmp matching (call_of (Moment gateway now) s))
  unfolding cause_of_line line_causes
  moment_cause gateway now s = one_cause _ _ _ ∙ ap (or_cause _) (called_cause (call_of (Moment gateway now) s))

  pub trees_cause : (gateway : ℕ) (region : Region) (table : Trees) (s : Fabric K)
      → cause_of_line cmp matching (SetTreesAt gateway region table) s
      ≡ or_cause (cause_if (is_unknown_gateway s gateway) refusal.UnknownGateway) (cause_at cmp matching (call_of (SetTreesAt gateway region table) s))
  unfolding cause_of_line line_causes
  trees_cause gateway region table s = one_cause _ _ _ ∙ ap (or_cause _) (called_cause (call_of (SetTreesAt gateway region table) s))

  -- a cause by the call that a line makes
  pub decided : (P : Option (CallAt K) → Option Refusal) (line : PlainLine K) (s : Fabric K) (at : Option (CallAt K)) → at ≡ call_of line s → cause_of_line cmp matching line s ≡ P (call_of line s) → P at ≡ cause_of_line cmp matching line s
  decided P line s at is cause = ap P is ∙ sym cause

  -- a link is refused by the first cause that holds of its ends
  pub link_cause : (one two first back : ℕ) (s : Fabric K)
      → (let line = LinkLine one two first back in
      let ends = link_ends s one two first back in
      cause_of_line cmp matching line s
      ≡ or_cause (cause_if (is_unknown_gateway s one || is_unknown_gateway s two) refusal.UnknownGateway)
      (or_cause (cause_if (list_any (is_end (λ end region bound. not (is_region_of end.node.rows.regions region))) ends) refusal.NoSuchRegion)
      (or_cause (cause_if (list_any is_refused_end ends || list_any (is_end (λ end region bound. not ((hat_of end.node.rows.mode region).fits region end.other.rows.mode bound))) ends) refusal.RegionConflict)
      (or_cause (cause_if (list_any (is_end (λ end region bound. is_north_taken region end.node.rows)) ends) refusal.NorthTaken)
      (or_cause (cause_if (list_any (is_end (closes_loop s)) ends) refusal.WouldLoop)
      (or_cause (cause_if (line_spends_ids cmp matching line s) refusal.IdsSpent)
      (cause_if (nat_le GREATEST_NUMBER (length s.faces + 1) || is_full s.links) refusal.NumbersSpent)))))))
  unfolding cause_of_line line_causes
  link_cause one two first back s =
      one_cause _ _ _ ∙ ap (or_cause _) (one_cause _ _ _ ∙ ap (or_cause _) (one_cause _ _ _ ∙ ap (or_cause _) (one_cause _ _ _ ∙ ap (or_cause _) (one_cause _ _ _ ∙ ap (or_cause _) (one_cause _ _ _ ∙ ap (or_cause _) (last_cause _ _))))))
