-- What is asked of rows by an id is asked of a part that has all rows of the id.
use Rattle.std.proofs.Common.{◌≡◌, ℕ, ◌==◌, List, [], ◌∷◌, ap, sym, refl, ◌∙◌}
use Rattle.zt_keys.specs.Test.{by_test}
use Rattle.zt_model.specs.Lists.{at_id, has_id}
use Rattle.zt_check_faces.specs.Parts.{HasThoseOf, those_of}
use Rattle.zt_check_faces.proofs.Parts.{any-of_part}

module _ {A : Type 0} (id : ℕ) where
  pub has_id_of : (part rows : List (ℕ × A)) → HasThoseOf (λ row. row.0) id part rows → has_id id part ≡ has_id id rows
  has_id_of part rows has = any-of_part (λ (row : ℕ × A). row.0) id (λ row. id == row.0) part rows (λ row t. t) has

  at_id_those : (rows : List (ℕ × A)) → at_id id rows ≡ at_id id (those_of (λ row. row.0) id rows)
  at_id_those [] = refl
  at_id_those (row ∷ rows) = by_test (id == row.0) (λ t. rw (t, t) refl) (λ t. rw t (at_id_those rows))

  pub at_id_of : (part rows : List (ℕ × A)) → HasThoseOf (λ row. row.0) id part rows → at_id id part ≡ at_id id rows
  at_id_of part rows has = at_id_those part ∙ (ap (at_id id) has ∙ sym (at_id_those rows))
