-- Lemmas on asks whose ids rise, of which one is answered.
use Rattle.std.proofs.Common.{◌≡◌, ℕ, true, false, ◌==◌, map, set, drop, get_or, refl, ap, ◌∙◌}
use Rattle.std.specs.Ordering.{nat_cmp}
use Rattle.std.specs.declared.cmp.Ordering.{Ordering}
use Rattle.zt_keys.specs.Test.{by_test}
use Rattle.zt_model.specs.Hearing.{with_answer}
use Rattle.zt_model.specs.Lists.{is_among}
use Rattle.zt_model.specs.Rows.{Ask, ById}
use Rattle.zt_check_faces.specs.Placed.{BeginsEqual, BeginsLess, IsBehind}
use Rattle.zt_check_faces.specs.Rising.{Rise, answered_once}
use Rattle.zt_check_faces.proofs.Risen.{map_found, map_none, row_tied}

module _ {K : Type 0} (cmp : K → K → Ordering) (id : ℕ) (e : K) where
  row_answered : (row : ℕ × Ask K) → (id == row.0) ≡ true → (row.0, answered_once cmp e row.1) ≡ with_answer cmp id e row
  row_answered row t = by_test (is_among cmp e row.1.answered) (λ u. rw (t, u) refl) (λ u. rw (t, u) refl)

  row_left : (row : ℕ × Ask K) → (id == row.0) ≡ false → with_answer cmp id e row ≡ row
  row_left row t = rw t refl

  pub found_answered : (asks : ById (Ask K)) (i : ℕ) (row : ℕ × Ask K) (new : Ask K) → Rise asks → IsBehind (λ (r : ℕ × Ask K). nat_cmp id r.0) asks i × BeginsEqual (λ (r : ℕ × Ask K). nat_cmp id r.0) (drop i asks)
      → row ≡ get_or asks i row → new ≡ answered_once cmp e row.1 → set asks i (row.0, new) ≡ map (with_answer cmp id e) asks
  found_answered asks i row new rise found is answered =
      ap (λ (ask : Ask K). set asks i (row.0, ask)) answered
      ∙ (ap (set asks i) (row_answered row (row_tied id asks i row found.1 is))
      ∙ map_found id (with_answer cmp id e) asks i row rise found is row_left)

  pub none_answered : (asks : ById (Ask K)) (i : ℕ) → Rise asks → IsBehind (λ (r : ℕ × Ask K). nat_cmp id r.0) asks i × BeginsLess (λ (r : ℕ × Ask K). nat_cmp id r.0) (drop i asks)
      → asks ≡ map (with_answer cmp id e) asks
  none_answered asks i rise found = map_none id (with_answer cmp id e) asks i rise found row_left
