-- How far up gateways lie.
use Rattle.std.proofs.Common.{◌≡◌, ℕ, suc, ◌+◌, ◌-◌, ◌<◌, ◌≤◌, ◌==◌, true, false, None, Some, refl, arith, eq-eqb, ne_eqb}
use Rattle.zt_model.specs.Fabric.{Fabric}
use Rattle.zt_model.specs.Linking.{climbs_to, gateway_above}

module _ {K : Type 0} (s : Fabric K) where
  one_more : (n i : ℕ) → i < n → n - i ≡ suc (n - (i + 1))
  one_more n i lt = omega arith

  pub climbed : (n i at to : ℕ) → i < n → at ≡ to → true ≡ climbs_to (n - i) s at to
  unfolding climbs_to
  climbed n i at to lt same = rw (one_more n i lt, eq-eqb at to same) refl

  pub no_higher : (n i at to : ℕ) → i < n → (at ≡ to → ⊥) → gateway_above s at ≡ None → false ≡ climbs_to (n - i) s at to
  unfolding climbs_to
  no_higher n i at to lt apart none = rw (one_more n i lt, ne_eqb at to apart, none) refl

  pub one_higher : (n i at above to : ℕ) → i < n → (at ≡ to → ⊥) → gateway_above s at ≡ Some above → climbs_to (n - (i + 1)) s above to ≡ climbs_to (n - i) s at to
  unfolding climbs_to
  one_higher n i at above to lt apart is = rw (one_more n i lt, ne_eqb at to apart, is) refl

  pub at_the_end : (n i at to : ℕ) → n ≤ i → (at == to) ≡ climbs_to (n - i) s at to
  unfolding climbs_to
  at_the_end n i at to past = let over : n - i ≡ 0 = omega arith in rw over refl
