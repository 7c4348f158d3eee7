-- What ends, where it is known whose asks were sent so.
use Rattle.std.proofs.Common.{◌≡◌, ℕ, zero, suc, ◌==◌, Bool, true, false, if◌then◌else◌, List, [], ◌∷◌, ◌++◌, Some, None, ap, drop, filter, flat_map, map, refl, sym, take, ◌∙◌}
use Rattle.std.specs.List.{list_any}
use Rattle.std.specs.List.Sorted.{IsStrictlySortedBy}
use Rattle.std.specs.Map.{keys_of}
use Rattle.std.specs.Ordering.{nat_cmp}
use Rattle.zt_keys.specs.Test.{by_test}
use Rattle.zt_protocol.specs.declared.messages.Message.{Message}
use Rattle.zt_protocol.specs.declared.messages.Message.TheVariants as message
use Rattle.zt_faces.specs.Asked.{IsAskerOf}
use Rattle.zt_faces.specs.Rising.{IsRising}
use Rattle.zt_faces.specs.declared.asked.Asker.TheVariants.{Nobody, One}
use Rattle.zt_faces.proofs.Said.{closed-said, nobody-said, one-said, said_at}
use Rattle.zt_interests.specs.Chosen.{chosen}
use Rattle.zt_model.specs.Lists.{at_id, first_where}
use Rattle.zt_model.specs.Parts.{Sends, to_each}
use Rattle.zt_model.specs.Routing.{finish_to, is_finished_by}
use Rattle.zt_model.specs.Rows.{Ask, ById, Face, Rows}

module _ {K : Type 0} (g : Rows K) (n id : ℕ) where
  abbrev final_for : Face K → ℕ × Ask K → List (Message K)
  final_for f row = if is_finished_by g n id row.1 then message.DeclareFinal row.0 ∷ [] else []

  finals-are : (f : Face K) (rows : ById (Ask K)) → map (λ row. message.DeclareFinal row.0) (filter (λ row. is_finished_by g n id row.1) rows) ≡ flat_map (final_for f) rows
  finals-are f [] = refl
  finals-are f (row ∷ rows) =
      by_test (is_finished_by g n id row.1)
      (λ t. rw t (ap (λ said. message.DeclareFinal row.0 ∷ said) (finals-are f rows)))
      (λ t. rw t (finals-are f rows))

  finish-is : (f : Face K) → finish_to g n id f ≡ flat_map (final_for f) f.asks
  unfolding finish_to
  finish-is f = finals-are f f.asks

  -- nothing where nobody asked so
  pub nobody-finished : (faces : List (Face K)) → IsAskerOf Nobody n id faces → to_each (finish_to g n id) faces ≡ []
  nobody-finished faces heard = nobody-said n id final_for (λ f row no. rw no refl) (finish_to g n id) finish-is faces heard

  module _ (a u place : ℕ) (faces : List (Face K)) (rising : IsRising (λ f. f.number) faces) (heard : IsAskerOf (One a u place) n id faces) where
    pub closed-finished : first_where (λ f. a == f.number) faces ≡ None → to_each (finish_to g n id) faces ≡ []
    closed-finished none = closed-said n id final_for (λ f row no. rw no refl) (finish_to g n id) finish-is a u place faces rising heard none

    pub one-finished : (f : Face K) → first_where (λ f. a == f.number) faces ≡ Some f → IsStrictlySortedBy nat_cmp (keys_of f.asks)
        → to_each (finish_to g n id) faces ≡ map (λ m. (f.number, m)) (said_at (final_for f) u (at_id u f.asks))
    one-finished f found ordered = one-said n id final_for (λ f row no. rw no refl) (finish_to g n id) finish-is a u place faces rising heard f found ordered

    module _ (f : Face K) (found : first_where (λ f. a == f.number) faces ≡ Some f) (ordered : IsStrictlySortedBy nat_cmp (keys_of f.asks)) where
      pub none-finished : at_id u f.asks ≡ None → to_each (finish_to g n id) faces ≡ []
      none-finished none = one-finished f found ordered ∙ ap (λ o. map (λ m. (f.number, m)) (said_at (final_for f) u o)) none

      pub some-finished : (ask : Ask K) (before after : Sends K) → at_id u f.asks ≡ Some ask → before ≡ []
          → after ≡ before ++ chosen (λ (r : ℕ × Ask K). is_finished_by g n id r.1) (λ r. (f.number, message.DeclareFinal r.0)) (u, ask)
          → after ≡ to_each (finish_to g n id) faces
      some-finished ask before after here none more =
          more
          ∙ ap (λ sends. sends ++ chosen (λ (r : ℕ × Ask K). is_finished_by g n id r.1) (λ r. (f.number, message.DeclareFinal r.0)) (u, ask)) none
          ∙ by_test (is_finished_by g n id ask) (λ t. rw t refl) (λ t. rw t refl)
          ∙ sym (one-finished f found ordered ∙ ap (λ o. map (λ m. (f.number, m)) (said_at (final_for f) u o)) here)

-- a pending that stands among some of these
module _ {A : Type 0} (p : A → Bool) where
  one-taken : (k : ℕ) (xs : List A) → list_any p (take k xs) ≡ true → list_any p xs ≡ true
  one-taken zero xs some = let no : false ≡ true = some in cc
  one-taken (suc k) [] some = some
  one-taken (suc k) (x ∷ xs) some = by_test (p x) (λ t. rw t refl) (λ t. rw t (one-taken k xs (rw t at some)))

  pub one-within : (from k : ℕ) (xs : List A) → list_any p (take k (drop from xs)) ≡ true → list_any p xs ≡ true
  one-within zero k xs some = one-taken k xs some
  one-within (suc from) k [] some = one-taken k [] some
  one-within (suc from) k (x ∷ xs) some = by_test (p x) (λ t. rw t refl) (λ t. rw t (one-within from k xs some))
