-- The entities that are found, face by face.
use Rattle.std.proofs.Common.{◌≡◌, ◌++◌, ◌∷◌, Bool, true, false, cond, List, [], ap, append_assoc, filter, refl, sym, ◌∙◌}
use Rattle.std.proofs.lemmas.List.{append-nil}
use Rattle.std.proofs.lemmas.List.Elements.{filter-append}
use Rattle.std.specs.List.{flat_map}
use Rattle.zt_model.specs.Rows.{Face, Rows}
use Rattle.zt_entities.specs.Found.{found_at, is_shown_of}

module _ {K A : Type 0} (g : Rows K) (f : Face K) (test : A → Bool) (entities : Face K → List A) where
  by_answer : (shown : Bool) (other : Face K) (others : List (Face K)) (found : List A)
      → found ≡ filter test (flat_map entities others)
      → cond shown (filter test (entities other)) [] ++ found ≡ filter test (flat_map entities (cond shown (other ∷ others) others))
  by_answer true other others found same =
      ap (λ rest. filter test (entities other) ++ rest) same ∙ sym (filter-append test (entities other) (flat_map entities others))
  by_answer false other others found same = same

  found_is : (faces : List (Face K)) → flat_map (found_at g f test entities) faces ≡ filter test (flat_map entities (filter (is_shown_of g f) faces))
  found_is [] = refl
  found_is (other ∷ others) =
      by_answer (is_shown_of g f other) other (filter (is_shown_of g f) others) (flat_map (found_at g f test entities) others) (found_is others)

  -- what is found so far and at the faces left is all, one face later too
  pub found_more : (rest left : List (Face K)) (other : Face K) (before after all : List A) → rest ≡ other ∷ left
      → before ++ flat_map (found_at g f test entities) rest ≡ all
      → after ≡ before ++ found_at g f test entities other
      → after ++ flat_map (found_at g f test entities) left ≡ all
  found_more rest left other before after all first so_far more =
      ap (λ found. found ++ flat_map (found_at g f test entities) left) more
      ∙ append_assoc before (found_at g f test entities other) (flat_map (found_at g f test entities) left)
      ∙ ap (λ fs. before ++ flat_map (found_at g f test entities) fs) (sym first)
      ∙ so_far

  -- behind the last face all is found
  pub found_all : (faces rest : List (Face K)) (found : List A) → rest ≡ []
      → found ++ flat_map (found_at g f test entities) rest ≡ flat_map (found_at g f test entities) faces
      → found ≡ filter test (flat_map entities (filter (is_shown_of g f) faces))
  found_all faces rest found past so_far =
      sym (append-nil found)
      ∙ ap (λ fs. found ++ flat_map (found_at g f test entities) fs) (sym past)
      ∙ so_far
      ∙ found_is faces
