-- The oldest message for a face, looked for from the front.
use Rattle.std.proofs.Common.{◌≡◌, ◌≢◌, ℕ, ◌+◌, ◌<◌, suc, [], ◌∷◌, ◌++◌, add-one, ap, append_assoc, drop, eq-eqb, get_or, length, ne_eqb, refl, sym, take, ◌∙◌}
use Rattle.std.proofs.Math.Seq.{take-suc}
use Rattle.zt_protocol.specs.declared.messages.Message.{Message}
use Rattle.zt_model.specs.Says.{Sends}
use Rattle.zt_state.proofs.Walks.{drop_item}
use Rattle.zt_gateway.specs.Running.{oldest_for, without_oldest}

module _ {K : Type 0} where
  -- a message for another face is passed over
  pub oldest_behind : (face : ℕ) (ss : Sends K) (i : ℕ) (s : ℕ × Message K) → i < length ss → s ≡ get_or ss i s → face ≢ s.0
      → oldest_for face (drop i ss) ≡ oldest_for face (drop (i + 1) ss)
  oldest_behind face ss i s within is other = rw (drop_item ss i s within is, ne_eqb face s.0 other) refl

  pub left_behind : (face : ℕ) (ss : Sends K) (i : ℕ) (s : ℕ × Message K) → i < length ss → s ≡ get_or ss i s → face ≢ s.0
      → take i ss ++ without_oldest face (drop i ss) ≡ take (i + 1) ss ++ without_oldest face (drop (i + 1) ss)
  left_behind face ss i s within is other =
      let rest = without_oldest face (drop (i + 1) ss) in
      let one_more : take (i + 1) ss ≡ take i ss ++ (s ∷ []) = rw add-one (take-suc ss i s within ∙ ap (λ x. take i ss ++ (x ∷ [])) (sym is)) in
      rw (drop_item ss i s within is, ne_eqb face s.0 other, one_more) (sym (append_assoc (take i ss) (s ∷ []) rest))

  -- a message for the face goes
  pub left_here : (face : ℕ) (ss : Sends K) (i : ℕ) (s : ℕ × Message K) → i < length ss → s ≡ get_or ss i s → face ≡ s.0
      → without_oldest face (drop i ss) ≡ drop (suc i) ss
  left_here face ss i s within is own = rw (drop_item ss i s within is, eq-eqb face s.0 own, add-one) refl
