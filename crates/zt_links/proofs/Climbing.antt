-- Climbing from gateway to gateway, and what the ends of a link come to.
use Rattle.std.proofs.Common.{◌≡◌, ℕ, zero, suc, ◌-◌, ◌<◌, ◌==◌, true, false, nat_eq, Some, None, refl, sym, ap, ◌∙◌, arith, eq-eqb, ne_eqb}
use Rattle.zt_region.specs.declared.region.WhatAmI.{WhatAmI}
use Rattle.zt_region.specs.South.{PlainPeer, PlainSouth}
use Rattle.zt_model.specs.Fabric.{Fabric, Node}
use Rattle.zt_model.specs.Linking.{climbs_to, end_region, gateway_above, peer_of}
use Rattle.zt_links.specs.Lines.{agreed}

module _ {K : Type 0} where
  pub climb_here : (k : ℕ) (s : Fabric K) (from to : ℕ) → from ≡ to → true ≡ climbs_to k s from to
  unfolding climbs_to
  climb_here zero s from to is = sym (eq-eqb from to is)
  climb_here (suc k) s from to is = let here : (from == to) ≡ true = eq-eqb from to is in rw here refl

  pub climb_stops : (k : ℕ) (s : Fabric K) (from to : ℕ) → 0 < k → (from ≡ to → ⊥) → gateway_above s from ≡ None → false ≡ climbs_to k s from to
  unfolding climbs_to
  climb_stops zero s from to real apart none = absurd (omega arith)
  climb_stops (suc k) s from to real apart none = let past : (from == to) ≡ false = ne_eqb from to apart in rw (past, none) refl

  pub climb_more : (k : ℕ) (s : Fabric K) (from to up : ℕ) → 0 < k → (from ≡ to → ⊥) → gateway_above s from ≡ Some up → climbs_to (k - 1) s up to ≡ climbs_to k s from to
  unfolding climbs_to
  climb_more zero s from to up real apart is = absurd (omega arith)
  climb_more (suc k) s from to up real apart is =
      let past : (from == to) ≡ false = ne_eqb from to apart in
      let less : suc k - 1 ≡ k = omega arith in
      rw (past, is) (ap (λ j. climbs_to j s up to) less)

  pub climb_last : (k : ℕ) (s : Fabric K) (from to : ℕ) → k ≡ 0 → nat_eq from to ≡ climbs_to k s from to
  unfolding climbs_to
  climb_last zero s from to is = refl
  climb_last (suc k) s from to is = absurd (omega arith)

  pub agreed_is : (own other : Node K) (p q : PlainPeer) (m n : WhatAmI) (a b : PlainSouth) → p ≡ peer_of own → q ≡ peer_of other → m ≡ own.rows.mode → a ≡ own.south → n ≡ other.rows.mode → b ≡ other.south → agreed p q m a n b ≡ end_region own other
  unfolding end_region
  agreed_is own other p q m n a b p_is q_is m_is a_is n_is b_is =
      ap (λ x. agreed x q m a n b) p_is
      ∙ ap (λ x. agreed (peer_of own) x m a n b) q_is
      ∙ ap (λ x. agreed (peer_of own) (peer_of other) x a n b) m_is
      ∙ ap (λ x. agreed (peer_of own) (peer_of other) own.rows.mode x n b) a_is
      ∙ ap (λ x. agreed (peer_of own) (peer_of other) own.rows.mode own.south x b) n_is
      ∙ ap (λ x. agreed (peer_of own) (peer_of other) own.rows.mode own.south other.rows.mode x) b_is
