-- Which faces have too few ids left.
use Rattle.std.proofs.Common.{◌≡◌, ◌≤◌, ◌<◌, ◌+◌, ◌&&◌, ◌||◌, ℕ, Bool, true, false, not, if◌then◌else◌, ◌==◌, nat_lt, List, [], ◌∷◌, Option, Some, None, ap, arith, refl, sym, ◌∙◌, le-ltb, ne_eqb}
use Rattle.std.proofs.Math.Bool.{or-false}
use Rattle.std.proofs.lemmas.Bool.{and_right}
use Rattle.std.proofs.lemmas.List.Folds.{list_any-append}
use Rattle.std.specs.List.{list_any}
use Rattle.std.specs.declared.cmp.Ordering.{Ordering}
use Rattle.zt_region.specs.declared.region.Bound.{Bound}
use Rattle.zt_region.specs.declared.region.Region.{Region}
use Rattle.zt_region.specs.declared.region.WhatAmI.{WhatAmI}
use Rattle.zt_region.specs.declared.region.Zid.{Zid}
use Rattle.zt_protocol.specs.Plain.{PlainCall, NewSession, NewTransport, DeclareToken, UndeclareToken, Interest, InterestFinal, DeclareFinal, CloseFace, Expire, SetTrees, SetEntities}
use Rattle.zt_protocol.specs.declared.interests.InterestMode.{InterestMode}
use Rattle.zt_protocol.specs.declared.interests.InterestOptions.{InterestOptions}
use Rattle.zt_model.specs.Parts.{find_face, is_routed}
use Rattle.zt_model.specs.Refusals.{GREATEST_NUMBER, can_draw, ids_for_opening, ids_for_token, is_answered_anew, left_ids, need, spends_ids}
use Rattle.zt_model.specs.Routing.{face_opened, opened}
use Rattle.zt_model.specs.Rows.{Face, Rows}
use Rattle.zt_model.specs.Telling.{is_told, registers}
use Rattle.zt_faces.specs.Rising.{AreUpTo}
use Rattle.zt_refusals.specs.Lacking.{lacks, lacks_for_interest, lacks_for_opening, lacks_for_token}

-- a face of which no ids are needed lacks none
pub needs_none : {K : Type 0} (g : Rows K) (needed : Face K → ℕ) (f : Face K) → needed f ≡ 0 → lacks g needed f ≡ false
needs_none g needed f none_needed =
    and_right (not (is_routed g f)) (nat_lt (left_ids f) (needed f))
    (ap (nat_lt (left_ids f)) none_needed ∙ le-ltb (left_ids f) 0 (omega arith))

-- faces of which no ids are needed lack none
pub none_lack : {K : Type 0} (g : Rows K) (needed : Face K → ℕ) (fs : List (Face K)) → ((f : Face K) → needed f ≡ 0) → false ≡ list_any (lacks g needed) fs
none_lack g needed [] none_needed = refl
none_lack g needed (f ∷ fs) none_needed = rw (needs_none g needed f (none_needed f)) (none_lack g needed fs none_needed)

-- faces that have more ids left than are needed lack none
pub none_lack_left : {K : Type 0} (g : Rows K) (needed : Face K → ℕ) (most m : ℕ) → ((f : Face K) → needed f ≤ most) → m + most ≤ GREATEST_NUMBER
    → (fs : List (Face K)) → AreUpTo (λ f. f.next) m fs → false ≡ list_any (lacks g needed) fs
none_lack_left g needed most m few room [] up_to = refl
none_lack_left g needed most m few room (f ∷ fs) up_to = rw here (none_lack_left g needed most m few room fs up_to.1)
  where
    enough : needed f ≤ left_ids f
    enough = let few_here = few f in omega (arith, few_here, room, up_to.0)

    here : lacks g needed f ≡ false
    here = and_right (not (is_routed g f)) (nat_lt (left_ids f) (needed f)) (le-ltb (left_ids f) (needed f) enough)

-- a token of a face that isn't open needs no ids
pub none_lack_token : {K : Type 0} (cmp : K → K → Ordering) (matching : K → K → Bool) (n : ℕ) (interest : Option ℕ) (e : K) (g : Rows K) → find_face n g ≡ None
    → false ≡ list_any (lacks_for_token cmp matching n interest e g) g.faces
none_lack_token cmp matching n interest e g closed =
    none_lack g (ids_for_token cmp matching n interest e g) g.faces (λ f. rw (closed, ids_for_token))

-- faces that stand are sent nothing when another opens
standing_lack : {K : Type 0} (cmp : K → K → Ordering) (matching : K → K → Bool) (g : Rows K) (fs : List (Face K)) → AreUpTo (λ f. f.number) g.made fs → list_any (lacks_for_opening cmp matching g) fs ≡ false
standing_lack cmp matching g [] up_to = refl
standing_lack cmp matching g (f ∷ fs) up_to = rw here (standing_lack cmp matching g fs up_to.1)
  where
    other : (f.number == g.made + 1) ≡ false
    other = ne_eqb f.number (g.made + 1) (λ same. let high = up_to.0 in omega (arith, same, high))

    here : lacks_for_opening cmp matching g f ≡ false
    here = needs_none g (ids_for_opening cmp matching g) f (rw other refl)

-- those that stand and the new one
pub opened_lack : {K : Type 0} (cmp : K → K → Ordering) (matching : K → K → Bool) (zid : Zid) (whatami : WhatAmI) (region : Region) (bound : Bound) (first : ℕ) (g : Rows K) (lacks_ : Bool)
    → AreUpTo (λ f. f.number) g.made g.faces
    → lacks_ ≡ lacks_for_opening cmp matching g (face_opened zid whatami region bound first g)
    → lacks_ ≡ list_any (lacks_for_opening cmp matching g) (opened zid whatami region bound first g).faces
opened_lack cmp matching zid whatami region bound first g lacks_ up_to is =
    let f = face_opened zid whatami region bound first g in
    is
    ∙ sym (list_any-append (lacks_for_opening cmp matching g) g.faces (f ∷ [])
    ∙ ap (λ b. b || (lacks_for_opening cmp matching g f || false)) (standing_lack cmp matching g g.faces up_to)
    ∙ or-false (lacks_for_opening cmp matching g f))

one_at_most : (b : Bool) → (if b then 1 else 0) ≤ 1
one_at_most true = omega arith
one_at_most false = omega arith

by_option : {A P : Type 0} (found : Option A) → (found ≡ None → P) → ((a : A) → found ≡ Some a → P) → P
by_option None none some = none refl
by_option (Some a) none some = some a refl

module _ {K : Type 0} (cmp : K → K → Ordering) (matching : K → K → Bool) where
  -- a token needs one id of a face at most
  one_for_token : (n : ℕ) (interest : Option ℕ) (e : K) (g : Rows K) (f : Face K) → ids_for_token cmp matching n interest e g f ≤ 1
  one_for_token n interest e g f =
      by_option (find_face n g)
      (λ closed. rw (closed, ids_for_token) (omega arith))
      (λ from is. rw (is, ids_for_token) (one_at_most (registers from interest && (is_told cmp matching g from.region e f || is_answered_anew cmp matching n interest e from f))))

  -- where each face has an id left none lacks one for a token
  pub none_lack_one : (n : ℕ) (interest : Option ℕ) (e : K) (g : Rows K) (highest : ℕ) → AreUpTo (λ f. f.next) highest g.faces → highest < GREATEST_NUMBER
      → false ≡ list_any (lacks_for_token cmp matching n interest e g) g.faces
  none_lack_one n interest e g highest up_to below =
      none_lack_left g (ids_for_token cmp matching n interest e g) 1 highest (one_for_token n interest e g) (omega (arith, below)) g.faces up_to

  -- what the calls that draw ids need
  pub spends_for_interest : (n id : ℕ) (mode : InterestMode) (options : InterestOptions) (e : Option K) (g : Rows K) → spends_ids cmp matching (Interest n id mode options e) g ≡ list_any (lacks_for_interest cmp matching n mode options e g) g.faces
  unfolding spends_ids need
  spends_for_interest n id mode options e g = refl

  -- the other calls need none
  pub cannot_spend : (c : PlainCall K) (g : Rows K) → can_draw cmp matching c ≡ false → false ≡ spends_ids cmp matching c g
  unfolding spends_ids need
  cannot_spend (NewSession first) g _ = none_lack g (λ f. 0) g.faces (λ f. refl)
  cannot_spend (UndeclareToken n id given node) g _ = none_lack g (λ f. 0) g.faces (λ f. refl)
  cannot_spend (InterestFinal n id) g _ = none_lack g (λ f. 0) g.faces (λ f. refl)
  cannot_spend (DeclareFinal n id) g _ = none_lack g (λ f. 0) g.faces (λ f. refl)
  cannot_spend (CloseFace n) g _ = none_lack g (λ f. 0) g.faces (λ f. refl)
  cannot_spend (Expire now) g _ = none_lack g (λ f. 0) g.faces (λ f. refl)
  cannot_spend (SetTrees region table) g _ = none_lack g (λ f. 0) g.faces (λ f. refl)
  cannot_spend (SetEntities n subscribers queryables) g _ = none_lack g (λ f. 0) g.faces (λ f. refl)
  cannot_spend (NewTransport zid whatami region bound first) g can = cc
  cannot_spend (DeclareToken n id e node interest) g can = cc
  cannot_spend (Interest n id mode options e) g can = cc
