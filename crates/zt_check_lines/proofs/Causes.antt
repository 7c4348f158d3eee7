-- The causes of lines, one test after another.
use Rattle.std.proofs.Common.{◌≡◌, ℕ, ◌+◌, Bool, true, false, ◌||◌, not, ◌++◌, List, [], ◌∷◌, length, nat_le, Option, is_none, None, Some, Result, Ok, Err, IfOk, refl, sym, ap, ap₂, ◌∙◌}
use Rattle.std.specs.List.{list_any}
use Rattle.std.specs.declared.cmp.Ordering.{Ordering}
use Rattle.zt_region.specs.declared.region.Bound.{Bound}
use Rattle.zt_region.specs.declared.region.Region.{Region}
use Rattle.zt_region.specs.declared.region.WhatAmI.{WhatAmI}
use Rattle.zt_region.specs.declared.region.Zid.{Zid}
use Rattle.zt_region.specs.South.{PlainSouth}
use Rattle.zt_keys.specs.Test.{by_test}
use Rattle.zt_protocol.specs.Plain.{PlainCall, Gateway, Session, Face, Link, Unlink, Step, Speak, Moment, SetTreesAt, Trees}
use Rattle.zt_protocol.specs.declared.errors.Refusal.{Refusal}
use Rattle.zt_protocol.specs.declared.errors.Refusal.TheVariants as refusal
use Rattle.zt_model.specs.Fabric.{CallAt, Fabric, Node, call_face, call_of, causes_of_call, is_full, is_linked_face, is_open_link, is_unknown_gateway, line_causes}
use Rattle.zt_model.specs.Hat.{hat_of}
use Rattle.zt_model.specs.Linking.{LinkEnd, closes_loop, end_region, is_end, is_refused_end, link_ends}
use Rattle.zt_model.specs.Lists.{nth}
use Rattle.zt_model.specs.Refusals.{Causes, GREATEST_NUMBER, first_cause, is_north_taken}
use Rattle.zt_model.specs.Strategy.{is_region_of}
use Rattle.zt_check_causes.specs.Causes.{call_cause}
use Rattle.zt_check_lines.specs.Lines.{cause_at, cause_at_gateway, cause_if, ends_cause, face_cause, gateway_cause, line_cause, or_cause, session_cause, speaking_cause, step_cause, unlink_cause, waits}

-- what a result says, in other words
pub told_same : {A E : Type 0} (result : Result A E) (told given : A) → IfOk result (λ x. x ≡ told) → told ≡ given → IfOk result (λ x. x ≡ given)
told_same (Ok x) told given h same = h ∙ same
told_same (Err e) told given h same = tt

pub told_where : {A E P : Type 0} (result : Result A E) (told given : A) → IfOk result (λ x. x ≡ told) → (P → told ≡ given) → IfOk result (λ x. P → x ≡ given)
told_where (Ok x) told given h same = λ p. h ∙ same p
told_where (Err e) told given h same = tt

pub told_there : {A E P : Type 0} (result : Result A E) (given : A) → IfOk result (λ x. P → x ≡ given) → P → IfOk result (λ x. x ≡ given)
told_there (Ok x) given h p = h p
told_there (Err e) given h p = tt

-- the first of some causes, by a test and the others
first_is : (b : Bool) (r : Refusal) (cs : Causes) → or_cause (cause_if b r) (first_cause cs) ≡ first_cause ((b, r) ∷ cs)
unfolding first_cause
first_is true r cs = refl
first_is false r cs = refl

last_is : (b : Bool) (r : Refusal) → cause_if b r ≡ first_cause ((b, r) ∷ [])
unfolding first_cause
last_is true r = refl
last_is false r = refl

first_both : (xs ys : Causes) → or_cause (first_cause xs) (first_cause ys) ≡ first_cause (xs ++ ys)
unfolding first_cause
first_both [] ys = refl
first_both ((b, r) ∷ xs) ys = by_test b (λ here. rw here refl) (λ here. rw here (first_both xs ys))

or_cause_assoc : (one two three : Option Refusal) → or_cause (or_cause one two) three ≡ or_cause one (or_cause two three)
or_cause_assoc None two three = refl
or_cause_assoc (Some cause) two three = refl

module _ {K : Type 0} (cmp : K → K → Ordering) (matching : K → K → Bool) where
  called : (at : Option (CallAt K)) → cause_at cmp matching at ≡ first_cause (causes_of_call cmp matching false at)
  unfolding first_cause call_cause
  called None = refl
  called (Some at) = refl

  pub gateway_line : (mode : WhatAmI) (zid : Zid) (regions : List Region) (south : PlainSouth) (name : Option (List ℕ)) (timeout : ℕ) (refused : List (Region × Region)) (s : Fabric K)
      → gateway_cause mode regions refused s ≡ line_cause cmp matching (Gateway mode zid regions south name timeout refused) s
  unfolding gateway_cause line_cause line_causes
  gateway_line mode zid regions south name timeout refused s = refl

  pub session_line : (gateway first : ℕ) (s : Fabric K) → session_cause s gateway ≡ line_cause cmp matching (Session gateway first) s
  unfolding line_cause line_causes
  session_line gateway first s =
      ap (or_cause (cause_if (is_unknown_gateway s gateway) refusal.UnknownGateway)) (last_is (is_full s.faces) refusal.NumbersSpent)
      ∙ first_is (is_unknown_gateway s gateway) refusal.UnknownGateway ((is_full s.faces, refusal.NumbersSpent) ∷ [])

  pub unlink_line : (link : ℕ) (s : Fabric K) → unlink_cause s link ≡ line_cause cmp matching (Unlink link) s
  unfolding line_cause line_causes
  unlink_line link s = last_is (not (is_open_link s link)) refusal.UnknownLink

  -- the lines that make a call, by what it is

  pub face_line : (gateway : ℕ) (mode : WhatAmI) (zid : Zid) (region : Region) (bound : Bound) (first : ℕ) (s : Fabric K) (made : Option (CallAt K))
      → made ≡ call_of (Face gateway mode zid region bound first) s → face_cause s gateway (cause_at cmp matching made) ≡ line_cause cmp matching (Face gateway mode zid region bound first) s
  unfolding line_cause line_causes
  face_line gateway mode zid region bound first s made is =
      let line = Face gateway mode zid region bound first in
      let causes = causes_of_call cmp matching false (call_of line s) in
      let full : Causes = (is_full s.faces, refusal.NumbersSpent) ∷ [] in
      ap (λ (at : Option (CallAt K)). face_cause s gateway (cause_at cmp matching at)) is
      ∙ (or_cause_assoc (cause_if (is_unknown_gateway s gateway) refusal.UnknownGateway) (cause_at cmp matching (call_of line s)) (cause_if (is_full s.faces) refusal.NumbersSpent)
      ∙ (ap (or_cause (cause_if (is_unknown_gateway s gateway) refusal.UnknownGateway)) (ap₂ or_cause (called (call_of line s)) (last_is (is_full s.faces) refusal.NumbersSpent) ∙ first_both causes full)
      ∙ first_is (is_unknown_gateway s gateway) refusal.UnknownGateway (causes ++ full)))

  gateway_named : (gateway : ℕ) (s : Fabric K) (made at : Option (CallAt K)) → made ≡ at
      → cause_at_gateway s gateway (cause_at cmp matching made) ≡ first_cause ((is_unknown_gateway s gateway, refusal.UnknownGateway) ∷ causes_of_call cmp matching false at)
  gateway_named gateway s made at is =
      ap (cause_at_gateway s gateway) (ap (cause_at cmp matching) is ∙ called at)
      ∙ first_is (is_unknown_gateway s gateway) refusal.UnknownGateway (causes_of_call cmp matching false at)

  pub moment_line : (gateway now : ℕ) (s : Fabric K) (made : Option (CallAt K)) → made ≡ call_of (Moment gateway now) s
      → cause_at_gateway s gateway (cause_at cmp matching made) ≡ line_cause cmp matching (Moment gateway now) s
  unfolding line_cause line_causes
  moment_line gateway now s made is = gateway_named gateway s made (call_of (Moment gateway now) s) is

  pub trees_line : (gateway : ℕ) (region : Region) (table : Trees) (s : Fabric K) (made : Option (CallAt K)) → made ≡ call_of (SetTreesAt gateway region table) s
      → cause_at_gateway s gateway (cause_at cmp matching made) ≡ line_cause cmp matching (SetTreesAt gateway region table) s
  unfolding line_cause line_causes
  trees_line gateway region table s made is = gateway_named gateway s made (call_of (SetTreesAt gateway region table) s) is

  -- two tests, and then a call's causes
  after_two : (b c : Bool) (r q : Refusal) (at : Option (CallAt K)) → or_cause (cause_if b r) (or_cause (cause_if c q) (cause_at cmp matching at)) ≡ first_cause ((b, r) ∷ (c, q) ∷ causes_of_call cmp matching false at)
  after_two b c r q at =
      let causes = causes_of_call cmp matching false at in
      ap (or_cause (cause_if b r)) (ap (or_cause (cause_if c q)) (called at) ∙ first_is c q causes) ∙ first_is b r ((c, q) ∷ causes)

  pub step_line : (link : ℕ) (back : Bool) (s : Fabric K) (made : Option (CallAt K)) → made ≡ call_of (Step link back) s
      → step_cause s link back (cause_at cmp matching made) ≡ line_cause cmp matching (Step link back) s
  unfolding line_cause line_causes
  step_line link back s made is =
      ap (λ (at : Option (CallAt K)). step_cause s link back (cause_at cmp matching at)) is
      ∙ after_two (not (is_open_link s link)) (not (waits s link back)) refusal.UnknownLink refusal.EmptyLink (call_of (Step link back) s)

  pub speaking_line : (call : PlainCall K) (s : Fabric K) (made : Option (CallAt K)) → made ≡ call_of (Speak call) s
      → speaking_cause s made (call_face call) (cause_at cmp matching made) ≡ line_cause cmp matching (Speak call) s
  unfolding line_cause line_causes
  speaking_line call s made is =
      ap (λ (at : Option (CallAt K)). speaking_cause s at (call_face call) (cause_at cmp matching at)) is
      ∙ after_two (is_none (call_of (Speak call) s)) (is_linked_face s (call_face call)) refusal.UnknownFace refusal.LinkedFace (call_of (Speak call) s)

  -- ---- links

  pub unknown_one : (one two first back : ℕ) (s : Fabric K) → nth one s.gateways ≡ None → Some refusal.UnknownGateway ≡ line_cause cmp matching (Link one two first back) s
  unfolding line_cause line_causes first_cause
  unknown_one one two first back s none = rw none refl

  pub unknown_two : (one two first back : ℕ) (s : Fabric K) (near : Node K) → nth one s.gateways ≡ Some near → nth two s.gateways ≡ None → Some refusal.UnknownGateway ≡ line_cause cmp matching (Link one two first back) s
  unfolding line_cause line_causes first_cause
  unknown_two one two first back s near is none = rw (is, none) refl

  -- the first cause, by what the tests of the ends come to
  abbrev by_tests : Fabric K → Bool → Bool → Bool → Bool → Option Refusal
  by_tests s unlisted apart taken loops =
      first_cause (
      (unlisted, refusal.NoSuchRegion)
      ∷ (apart, refusal.RegionConflict)
      ∷ (taken, refusal.NorthTaken)
      ∷ (loops, refusal.WouldLoop)
      ∷ (nat_le GREATEST_NUMBER (length s.faces + 1) || is_full s.links, refusal.NumbersSpent)
      ∷ [])

  abbrev unlisted_end : LinkEnd K → Bool
  unlisted_end end = is_end (λ end region bound. not (is_region_of end.node.rows.regions region)) end

  abbrev misfit_end : LinkEnd K → Bool
  misfit_end end = is_end (λ end region bound. not ((hat_of end.node.rows.mode region).fits region end.other.rows.mode bound)) end

  abbrev taken_end : LinkEnd K → Bool
  taken_end end = is_end (λ end region bound. is_north_taken region end.node.rows) end

  abbrev by_ends : Fabric K → List (LinkEnd K) → Option Refusal
  by_ends s ends = by_tests s (list_any unlisted_end ends) (list_any is_refused_end ends || list_any misfit_end ends) (list_any taken_end ends) (list_any (is_end (closes_loop s)) ends)

  of_two : (p : LinkEnd K → Bool) (a b : LinkEnd K) → (p a || p b) ≡ list_any p (a ∷ b ∷ [])
  of_two p a b = ap (λ x. p a || x) (none_more (p b))
    where
      none_more : (x : Bool) → x ≡ (x || false)
      none_more true = refl
      none_more false = refl

  by_two : (s : Fabric K) (a b : LinkEnd K)
      → by_tests s (unlisted_end a || unlisted_end b) ((is_refused_end a || is_refused_end b) || (misfit_end a || misfit_end b)) (taken_end a || taken_end b) (is_end (closes_loop s) a || is_end (closes_loop s) b)
      ≡ by_ends s (a ∷ b ∷ [])
  by_two s a b =
      rw (of_two unlisted_end a b, of_two is_refused_end a b, of_two misfit_end a b, of_two taken_end a b, of_two (is_end (closes_loop s)) a b) refl

  by_link : (one two first back : ℕ) (s : Fabric K) → is_unknown_gateway s one ≡ false → is_unknown_gateway s two ≡ false
      → by_ends s (link_ends s one two first back) ≡ line_cause cmp matching (Link one two first back) s
  unfolding line_cause line_causes first_cause
  by_link one two first back s there also = rw (there, also) refl

  ends_are : (one two first back : ℕ) (s : Fabric K) (near far : Node K) → nth one s.gateways ≡ Some near → nth two s.gateways ≡ Some far
      → link_ends s one two first back ≡ record { gateway = one; node = near; beyond = two; other = far; first = first } ∷ record { gateway = two; node = far; beyond = one; other = near; first = back } ∷ []
  ends_are one two first back s near far is also = rw (is, also, link_ends) refl

  pub link_line : (one two first back : ℕ) (s : Fabric K) (near far : Node K) → nth one s.gateways ≡ Some near → nth two s.gateways ≡ Some far
      → ends_cause s one near (end_region near far) two far (end_region far near) ≡ line_cause cmp matching (Link one two first back) s
  unfolding ends_cause
  link_line one two first back s near far is also =
      let a : LinkEnd K = record { gateway = one; node = near; beyond = two; other = far; first = first } in
      let b : LinkEnd K = record { gateway = two; node = far; beyond = one; other = near; first = back } in
      let ends : link_ends s one two first back ≡ a ∷ b ∷ [] = ends_are one two first back s near far is also in
      by_two s a b
      ∙ (ap (by_ends s) (sym ends)
      ∙ by_link one two first back s (ap is_none is) (ap is_none also))
