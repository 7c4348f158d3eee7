-- The oldest message of a queue is taken.
use Rattle.std.proofs.Common.{◌≡◌, ℕ, false, ◌==◌, List, [], ◌∷◌, Option, Some, None, option_map, refl, sym, ap, ◌∙◌, eq-eqb, eqb-true}
use Rattle.zt_protocol.specs.declared.messages.Message.{Message}
use Rattle.zt_model.specs.Lists.{at_id, rest_of}
use Rattle.zt_model.specs.Rows.{ById}
use Rattle.zt_laws.proofs.Lists.{by_test, never}
use Rattle.zt_theorem_tree_invariant.proofs.Stepping.{taken}
use Rattle.zt_theorem_tree_invariant.proofs.Turning.{queue}

at_taken : {K : Type 0} (q : ℕ) (w : ById (List (Message K))) → at_id q (taken q w) ≡ option_map rest_of (at_id q w)
at_taken q [] = refl
at_taken {K} q (row ∷ w) = by_test (q == row.0) (λ here. rw here (rw here refl)) (λ here. rw here (rw here (at_taken q w)))

at_still : {K : Type 0} (q k : ℕ) (w : ById (List (Message K))) → (q == k) ≡ false → at_id k (taken q w) ≡ at_id k w
at_still q k [] apart = refl
at_still {K} q k (row ∷ w) apart =
    by_test (q == row.0)
    (λ here.
    let miss : (k == row.0) ≡ false = by_test (k == row.0) (λ own. never (eq-eqb q k (eqb-true q row.0 here ∙ sym (eqb-true k row.0 own))) apart) (λ h. h) in
    rw here (rw miss (at_still q k w apart)))
    (λ here. rw here (by_test (k == row.0) (λ own. rw own refl) (λ own. rw own (at_still q k w apart))))

pub queue_taken : {K : Type 0} (q : ℕ) (w : ById (List (Message K))) → queue (taken q w) q ≡ rest_of (queue w q)
queue_taken {K} q w = ap (λ (o : Option (List (Message K))). (let ms : List (Message K) = elim o [ None ↦ [] | Some xs ↦ xs ] in ms)) (at_taken q w) ∙ cases (at_id q w)
  where
    cases : (o : Option (List (Message K))) → (let ms : List (Message K) = elim (option_map rest_of o) [ None ↦ [] | Some xs ↦ xs ] in ms) ≡ rest_of (let ms : List (Message K) = elim o [ None ↦ [] | Some xs ↦ xs ] in ms)
    cases None = refl
    cases (Some xs) = refl

pub queue_still : {K : Type 0} (q k : ℕ) (w : ById (List (Message K))) → (q == k) ≡ false → queue (taken q w) k ≡ queue w k
queue_still {K} q k w apart = ap (λ (o : Option (List (Message K))). (let ms : List (Message K) = elim o [ None ↦ [] | Some xs ↦ xs ] in ms)) (at_still q k w apart)
