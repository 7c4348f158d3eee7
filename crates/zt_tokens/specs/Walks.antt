-- What the faces of given numbers are given, in place of all faces.
use Rattle.std.specs.Prelude.{ℕ, ◌==◌, Bool, List, [], Some, None, is_some, map}
use Rattle.zt_protocol.specs.declared.messages.Message.{Message}
use Rattle.zt_model.specs.Lists.{first_where, is_some_and}
use Rattle.zt_model.specs.Parts.{Sends}
use Rattle.zt_model.specs.Rows.{Face}
use Rattle.zt_token_index.specs.Told.{id_of}

module _ {K : Type 0} where
  -- what a rule gives to the face of a number
  abbrev pub given_at : {B : Type 0} → (Face K → List B) → List (Face K) → ℕ → List B
  given_at give fs n = elim (first_where (λ f. n == f.number) fs) [ None ↦ [] | Some f ↦ give f ]

  -- what a face is sent, with its number
  abbrev pub sent_to : (Face K → List (Message K)) → Face K → Sends K
  sent_to rule f = map (λ m. (f.number, m)) (rule f)

  -- whether the face of a number is open and has one of these pairs of face and id
  abbrev pub is_told_at : List (ℕ × ℕ) → List (Face K) → ℕ → Bool
  is_told_at pairs fs n = is_some_and (first_where (λ f. n == f.number) fs) (λ f. is_some (id_of f.number pairs))
