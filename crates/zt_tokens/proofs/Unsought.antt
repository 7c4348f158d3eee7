-- A face that doesn't seek an expression hears nothing of its tokens; one that does isn't asked so again.
use Rattle.std.proofs.Common.{◌≡◌, ℕ, Bool, false, ◌&&◌, not, is_none, if◌then◌else◌, [], Option, ap, refl, sym, true, ◌∙◌}
use Rattle.std.specs.declared.cmp.Ordering.{Ordering}
use Rattle.zt_region.specs.Admission.{admits}
use Rattle.zt_region.specs.declared.region.Region.{Region}
use Rattle.zt_model.specs.Parts.{is_routed, told_id}
use Rattle.zt_model.specs.Rows.{Face, Rows}
use Rattle.zt_model.specs.Telling.{is_told, tell_to}
use Rattle.zt_model.specs.Visible.{shows}
use Rattle.zt_model.specs.Wants.{seeks}
use Rattle.zt_tokens.specs.Seeking.{declared_to, is_seeker_told, is_told_by}
use Rattle.zt_tokens.proofs.Told.{told_is_none}

last-fails : (a b c d e : Bool) → e ≡ false → (a && (b && c && d && e)) ≡ false
last-fails false b c d e h = refl
last-fails true false c d e h = refl
last-fails true true false d e h = refl
last-fails true true true false e h = refl
last-fails true true true true e h = h

last-holds : (a b c d e : Bool) → e ≡ true → (a && (b && c && d)) ≡ (a && (b && c && d && e))
last-holds false b c d e h = refl
last-holds true false c d e h = refl
last-holds true true false d e h = refl
last-holds true true true false e h = refl
last-holds true true true true e h = sym h

module _ {K : Type 0} (matching : K → K → Bool) (g : Rows K) (source : Region) (e : K) (f : Face K) where
  pub unsought : seeks matching g.mode f e ≡ false → (told : Option ℕ) → is_told_by matching g source e f told ≡ false
  unsought h told = last-fails (not (is_routed g f)) (admits g.refused source f.region) (shows g.mode f.region source) (is_none told) (seeks matching g.mode f e) h

  module _ (cmp : K → K → Ordering) where
    -- by the id under which it was told the expression
    pub told-by : (told : Option ℕ) → told ≡ told_id cmp e f.told → is_told_by matching g source e f told ≡ is_told cmp matching g source e f
    told-by told is =
        ap (λ b. not (is_routed g f) && (admits g.refused source f.region && shows g.mode f.region source && b && seeks matching g.mode f e)) (ap is_none is ∙ told_is_none cmp e f.told)

    pub tells-by : (told : Option ℕ) → told ≡ told_id cmp e f.told → (if is_told_by matching g source e f told then declared_to e f else []) ≡ tell_to cmp matching g source e f
    unfolding tell_to
    tells-by told is = ap (λ b. if b then declared_to e f else []) (told-by told is)

    pub sought-told : (told : Option ℕ) → told ≡ told_id cmp e f.told → seeks matching g.mode f e ≡ true → (if is_seeker_told g source f told then declared_to e f else []) ≡ tell_to cmp matching g source e f
    sought-told told is h =
        ap (λ b. if b then declared_to e f else [])
        (last-holds (not (is_routed g f)) (admits g.refused source f.region) (shows g.mode f.region source) (is_none told) (seeks matching g.mode f e) h)
        ∙ tells-by told is

    pub unsought-untold : seeks matching g.mode f e ≡ false → tell_to cmp matching g source e f ≡ []
    unsought-untold h = let told = told_id cmp e f.told in sym (tells-by told refl) ∙ ap (λ b. if b then declared_to e f else []) (unsought h told)
