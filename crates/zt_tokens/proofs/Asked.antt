-- What is answered, where it is known whose asks were sent so.
use Rattle.std.proofs.Common.{◌≡◌, ℕ, ◌==◌, Bool, if◌then◌else◌, List, [], ◌∷◌, ◌++◌, Some, None, ap, map, refl, sym, ◌∙◌}
use Rattle.std.specs.List.{AllByRecursion}
use Rattle.std.specs.List.Sorted.{IsStrictlySortedBy}
use Rattle.std.specs.Map.{keys_of}
use Rattle.std.specs.Ordering.{nat_cmp}
use Rattle.std.specs.declared.cmp.Ordering.{Ordering}
use Rattle.zt_protocol.specs.declared.messages.Message.{Message}
use Rattle.zt_faces.specs.Asked.{IsAskerOf}
use Rattle.zt_faces.specs.Rising.{IsRising}
use Rattle.zt_faces.specs.declared.asked.Asker.TheVariants.{Nobody, One}
use Rattle.zt_faces.proofs.Said.{closed-said, nobody-said, one-said, said_at}
use Rattle.zt_model.specs.Lists.{at_id, first_where}
use Rattle.zt_model.specs.Parts.{Sends, to_each, told_id}
use Rattle.zt_model.specs.Rows.{Ask, Face}
use Rattle.zt_model.specs.Telling.{answer_to, answers_from, is_answered_by}
use Rattle.zt_token_index.specs.Told.{id_of}
use Rattle.zt_tokens.specs.Answered.{answer_of, answer_told}
use Rattle.zt_tokens.proofs.Answers.{answers-by}
use Rattle.zt_tokens.proofs.Chosen.{each-then, each_alike}

module _ {K : Type 0} (cmp : K → K → Ordering) (matching : K → K → Bool) (n id : ℕ) (e : K) where
  -- nothing where nobody asked so
  pub nobody-answered : (faces : List (Face K)) → IsAskerOf Nobody n id faces → to_each (answer_to cmp matching n id e) faces ≡ []
  unfolding answer_to
  nobody-answered faces heard =
      nobody-said n id (λ f row. if is_answered_by cmp matching n id e row.1 then answers_from cmp matching f.next f.told row.1.interest.mode row.0 (e ∷ []) else []) (λ f row no. rw no refl) (answer_to cmp matching n id e) (λ f. refl) faces heard

  module _ (pairs : List (ℕ × ℕ)) (a u place : ℕ) (faces : List (Face K)) (told : AllByRecursion (λ f. id_of f.number pairs ≡ told_id cmp e f.told) faces) (rising : IsRising (λ f. f.number) faces) (heard : IsAskerOf (One a u place) n id faces) where
    abbrev by : Face K → List (Message K)
    by = answer_told cmp matching n id e pairs

    alike : to_each by faces ≡ to_each (answer_to cmp matching n id e) faces
    alike = each_alike (answer_to cmp matching n id e) by faces (each-then (λ f. id_of f.number pairs ≡ told_id cmp e f.told) (λ f. by f ≡ answer_to cmp matching n id e f) (answers-by cmp matching n id e pairs) faces told)

    pub closed-answered : first_where (λ f. a == f.number) faces ≡ None → to_each (answer_to cmp matching n id e) faces ≡ []
    closed-answered none = sym alike ∙ closed-said n id (answer_of cmp matching n id e pairs) (λ f row no. rw no refl) by (λ f. refl) a u place faces rising heard none

    pub one-answered : (f : Face K) → first_where (λ f. a == f.number) faces ≡ Some f → IsStrictlySortedBy nat_cmp (keys_of f.asks)
        → to_each (answer_to cmp matching n id e) faces ≡ map (λ m. (f.number, m)) (said_at (answer_of cmp matching n id e pairs f) u (at_id u f.asks))
    one-answered f found ordered = sym alike ∙ one-said n id (answer_of cmp matching n id e pairs) (λ f row no. rw no refl) by (λ f. refl) a u place faces rising heard f found ordered

    module _ (f : Face K) (found : first_where (λ f. a == f.number) faces ≡ Some f) (ordered : IsStrictlySortedBy nat_cmp (keys_of f.asks)) where
      pub none-answered : at_id u f.asks ≡ None → to_each (answer_to cmp matching n id e) faces ≡ []
      none-answered none = one-answered f found ordered ∙ ap (λ o. map (λ m. (f.number, m)) (said_at (answer_of cmp matching n id e pairs f) u o)) none

      pub some-answered : (ask : Ask K) (before after : Sends K) → at_id u f.asks ≡ Some ask → before ≡ []
          → after ≡ before ++ map (λ m. (f.number, m)) (answer_of cmp matching n id e pairs f (u, ask))
          → after ≡ to_each (answer_to cmp matching n id e) faces
      some-answered ask before after here none more =
          more
          ∙ ap (λ sends. sends ++ map (λ m. (f.number, m)) (answer_of cmp matching n id e pairs f (u, ask))) none
          ∙ sym (one-answered f found ordered ∙ ap (λ o. map (λ m. (f.number, m)) (said_at (answer_of cmp matching n id e pairs f) u o)) here)
