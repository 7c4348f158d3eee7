-- What telling of a token leaves at a face.
use Rattle.std.proofs.Common.{◌≡◌, ℕ, ◌+◌, max, Bool, true, false, cond, if◌then◌else◌, ◌&&◌, ◌||◌, [], ◌∷◌, ◌++◌, None, refl, ap, ◌∙◌, arith, ⊎_elim}
use Rattle.std.proofs.lemmas.Bool.{and_parts, or_left, or_right, or_cases}
use Rattle.std.specs.List.{list_any}
use Rattle.std.specs.declared.cmp.Ordering.{Ordering}
use Rattle.zt_region.specs.declared.region.Region.{Region}
use Rattle.zt_region.specs.declared.region.WhatAmI.{WhatAmI}
use Rattle.zt_protocol.specs.Interest.{is_current}
use Rattle.zt_protocol.specs.declared.messages.Message.{Message}
use Rattle.zt_protocol.specs.declared.messages.Message.TheVariants.{DeclareToken}
use Rattle.zt_model.specs.Hat.{hat_of}
use Rattle.zt_model.specs.Hearing.{heard, heard_all, told_pair}
use Rattle.zt_model.specs.Rows.{ById, Face, Rows}
use Rattle.zt_model.specs.Says.{is_told, tell_to}
use Rattle.zt_model.specs.Wants.{asks_token, covers, seeks, wants}
use Rattle.zt_laws.specs.Sound.{IsToldInOrder}
use Rattle.zt_laws.proofs.Lists.{any_weaker}
use Rattle.zt_laws.proofs.Told.{told_pair_new}
pub use Rattle.zt_laws.specs.Effects.{told_anew}

module _ {K : Type 0} (cmp : K → K → Ordering) where
  -- a message that is sent where a test says so
  pub heard_if : (now : ℕ) (b : Bool) (m : Message K) (f after : Face K) → heard cmp now m f ≡ after → heard_all cmp now (cond b (m ∷ []) []) f ≡ cond b after f
  unfolding heard_all
  heard_if now true m f after h = h
  heard_if now false m f after h = refl

-- a face of the same region with the same interests seeks and covers the same
pub seeks_alike : {K : Type 0} (matching : K → K → Bool) (mode : WhatAmI) (f h : Face K) (e : K) → f.region ≡ h.region → f.held ≡ h.held → seeks matching mode f e ≡ seeks matching mode h e
unfolding seeks wants
seeks_alike matching mode f h e region_ held_ =
    ap (λ (r : Region). (hat_of mode r).is_told_unasked r || list_any (λ row. asks_token matching row.1 e) f.held) region_
    ∙ ap (λ rows. (hat_of mode h.region).is_told_unasked h.region || list_any (λ row. asks_token matching row.1 e) rows) held_

pub covers_alike : {K : Type 0} (matching : K → K → Bool) (mode : WhatAmI) (f h : Face K) (e : K) → f.region ≡ h.region → f.held ≡ h.held → covers matching mode f e ≡ covers matching mode h e
unfolding covers
covers_alike matching mode f h e region_ held_ =
    ap (λ (r : Region). (hat_of mode r).is_told_unasked r || list_any (λ row. is_current row.1.mode && asks_token matching row.1 e) f.held) region_
    ∙ ap (λ rows. (hat_of mode h.region).is_told_unasked h.region || list_any (λ row. is_current row.1.mode && asks_token matching row.1 e) rows) held_

-- what a face covers it seeks
pub covers_seeks : {K : Type 0} (matching : K → K → Bool) (mode : WhatAmI) (f : Face K) (e : K) → covers matching mode f e ≡ true → seeks matching mode f e ≡ true
unfolding covers seeks wants
covers_seeks matching mode f e h =
    ⊎_elim (λ unasked. or_left ((hat_of mode f.region).is_told_unasked f.region) (list_any (λ row. asks_token matching row.1 e) f.held) unasked)
    (λ asked. or_right ((hat_of mode f.region).is_told_unasked f.region) (list_any (λ row. asks_token matching row.1 e) f.held)
    (any_weaker (λ row. is_current row.1.mode && asks_token matching row.1 e) (λ row. asks_token matching row.1 e) (λ row both. (and_parts (is_current row.1.mode) (asks_token matching row.1 e) both).1) f.held asked))
    (or_cases ((hat_of mode f.region).is_told_unasked f.region) (list_any (λ row. is_current row.1.mode && asks_token matching row.1 e) f.held) h)

module _ {K : Type 0} (cmp : K → K → Ordering) (matching : K → K → Bool) where
  -- a face that is told an expression has it under its next id, and any other face is as it was
  pub heard_tell : (now : ℕ) (g : Rows K) (source : Region) (e : K) (f : Face K) → IsToldInOrder cmp f.told f.next
      → heard_all cmp now (tell_to cmp matching g source e f) f ≡ (if is_told cmp matching g source e f then told_anew e f else f)
  unfolding tell_to
  heard_tell now g source e f ordered =
      let next_ : max f.next (f.next + 1) ≡ f.next + 1 = omega arith in
      let told_ : told_pair cmp f.next e f.told ≡ f.told ++ (f.next, e) ∷ [] = told_pair_new cmp f.next e f.told ordered.next_is_real ordered.below in
      let one : heard cmp now (DeclareToken f.next e None 0) f ≡ told_anew e f =
      ap (λ (n : ℕ). record f { next = n; told = told_pair cmp f.next e f.told }) next_
      ∙ ap (λ (rows : ById K). record f { next = f.next + 1; told = rows }) told_ in
      heard_if cmp now (is_told cmp matching g source e f) (DeclareToken f.next e None 0) f (told_anew e f) one
