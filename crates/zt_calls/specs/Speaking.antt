-- What a call comes to, by what its face had when it came.
use Rattle.std.specs.Prelude.{ℕ, Bool, true, false, if◌then◌else◌, List, [], ◌∷◌, ◌++◌, Option, Some, None}
use Rattle.std.specs.declared.cmp.Ordering.{Ordering}
use Rattle.zt_region.specs.declared.region.Region.{Region}
use Rattle.zt_region.specs.declared.region.Zid.{Zid}
use Rattle.zt_protocol.specs.Plain.{PlainCall, DeclareToken, UndeclareToken, Interest, InterestFinal, DeclareFinal, CloseFace}
use Rattle.zt_model.specs.Closing.{leaving, without_face}
use Rattle.zt_model.specs.Parts.{Alter, Part, Say, is_routed, unsaid_to, with_face}
use Rattle.zt_model.specs.Rows.{Face, Rows}
use Rattle.zt_model.specs.Says.{declaring_of, hiding_undeclared, undeclaring_of}
use Rattle.zt_model.specs.Telling.{answer, answering, declaring, forget, registered, registers, tell, undeclaring, unregistered}
use Rattle.zt_model.specs.Trees.{but_for, hiding, pass_on, showing, source_of, unpass, with_routed, without_routed}

module _ {K : Type 0} (cmp : K → K → Ordering) (matching : K → K → Bool) where
  -- the token answers the interest that waits, if one does
  abbrev pub answering_asked : ℕ → Option ℕ → K → List (Part K)
  answering_asked n None e = []
  answering_asked n (Some id) e = Say (answer cmp matching n id e) ∷ []

  -- the token is declared, if it registers
  abbrev pub declaring_if : Bool → ℕ → Region → ℕ → K → List (Part K)
  declaring_if registers n region id e =
      if registers then Alter (with_face n (registered id e)) ∷ Say (tell cmp matching region e) ∷ showing cmp region e else []

  -- a token of a router, where the face means one, comes or goes in a region
  abbrev pub declaring_from : ℕ → Region → Option Zid → K → List (Part K)
  declaring_from n region None e = []
  declaring_from n region (Some source) e =
      Alter (with_routed cmp region source e)
      ∷ Say (λ h. but_for cmp n (pass_on cmp region source e h))
      ∷ Say (tell cmp matching region e)
      ∷ showing cmp region e

  abbrev pub undeclaring_from : ℕ → Region → Option Zid → Option K → List (Part K)
  undeclaring_from n region (Some source) (Some e) =
      Alter (without_routed cmp region source e)
      ∷ Say (λ h. but_for cmp n (unpass cmp region source e h))
      ∷ Say (forget cmp matching region e)
      ∷ hiding cmp region e
  undeclaring_from n region _ _ = []

  -- an expression is undeclared under an id, if any is
  abbrev pub undeclaring_plain : ℕ → Region → ℕ → Option K → List (Part K)
  undeclaring_plain n region id None = []
  undeclaring_plain n region id (Some e) =
      Alter (with_face n (unregistered id)) ∷ Say (forget cmp matching region e) ∷ hiding cmp region e

  -- what a declaration of an open face comes to, and an undeclaration
  abbrev pub declaring_at : ℕ → ℕ → K → ℕ → Option ℕ → Rows K → Face K → List (Part K)
  declaring_at n id e node interest g f =
      if is_routed g f then declaring_of cmp matching n (source_of g f node) e f
      else answering cmp matching n interest e f ++ (if registers f interest then declaring cmp matching n id e f ++ showing cmp f.region e else [])

  abbrev pub undeclaring_at : ℕ → ℕ → Option K → ℕ → Rows K → Face K → List (Part K)
  undeclaring_at n id given node g f =
      if is_routed g f then undeclaring_of cmp matching n (source_of g f node) given f
      else undeclaring cmp matching n id given f ++ hiding_undeclared cmp matching id given f

  -- a face closes, without a word where its region is of routers
  abbrev pub leaving_unless : Bool → ℕ → Face K → List (Part K)
  leaving_unless is_routed n f = if is_routed then [] else unsaid_to n (leaving cmp matching n f)

  abbrev pub closing_if : Bool → ℕ → Face K → List (Part K)
  closing_if is_routed n f = leaving_unless is_routed n f ++ Alter (without_face n) ∷ []

-- a face speaks the call
abbrev pub is_spoken : {K : Type 0} → PlainCall K → Bool
is_spoken (DeclareToken face id expr node interest) = true
is_spoken (UndeclareToken face id expr node) = true
is_spoken (Interest face id mode options expr) = true
is_spoken (InterestFinal face id) = true
is_spoken (DeclareFinal face interest) = true
is_spoken (CloseFace face) = true
is_spoken _ = false
