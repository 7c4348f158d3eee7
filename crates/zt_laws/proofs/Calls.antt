-- Why an accepted call is accepted: no cause of its list holds.
use Rattle.std.proofs.Common.{◌≡◌, ℕ, Bool, true, false, ◌∷◌, Some, None, refl, sym, ap, ◌∙◌}
use Rattle.zt_protocol.specs.declared.errors.Refusal.{Refusal}
use Rattle.zt_model.specs.Lists.{is_some_and}
use Rattle.zt_model.specs.Refusals.{Causes, first_cause, on_face}
use Rattle.zt_model.specs.Rows.{Face, Rows}
use Rattle.zt_model.specs.Says.{find_face}

-- no cause holds: the first doesn't, nor a later one
pub no_cause : (b : Bool) (refusal : Refusal) (causes : Causes) → first_cause ((b, refusal) ∷ causes) ≡ None → (b ≡ false) × (first_cause causes ≡ None)
unfolding first_cause
no_cause true refusal causes h = absurd (cc)
no_cause false refusal causes h = (refl, h)

-- a cause of an open face fails at that face
pub not_on_face : {K : Type 0} (n : ℕ) (g : Rows K) (test : Face K → Bool) (f : Face K) → find_face n g ≡ Some f → on_face n g test ≡ false → test f ≡ false
not_on_face n g test f found h = ap (λ o. is_some_and o test) (sym found) ∙ h
