-- One answer more, of an expression or of an ask.
use Rattle.std.proofs.Common.{◌≡◌, ℕ, ◌+◌, ◌<◌, ◌≤◌, Bool, ◌&&◌, true, false, is_none, if◌then◌else◌, List, [], ◌∷◌, ◌++◌, Option, Some, None, unwrap_or, filter, map, flat_map, length, get_or, drop, refl, ap, sym, ◌∙◌, append_assoc}
use Rattle.std.proofs.lemmas.List.{append-nil, drop_all, map-append}
use Rattle.std.specs.declared.cmp.Ordering.{Ordering}
use Rattle.zt_protocol.specs.Interest.{has_tokens, is_current, is_future}
use Rattle.zt_protocol.specs.declared.interests.InterestMode.{InterestMode}
use Rattle.zt_protocol.specs.declared.messages.Message.{Message}
use Rattle.zt_protocol.specs.declared.messages.Message.TheVariants as message
use Rattle.zt_model.specs.Parts.{told_id}
use Rattle.zt_model.specs.Rows.{ById, Face, InterestRow, Rows}
use Rattle.zt_model.specs.Telling.{answer_to, answered_expressions, answers_from, is_answered_by}
use Rattle.zt_model.specs.Visible.{visible_expressions}
use Rattle.zt_model.specs.Wants.{is_about}
use Rattle.zt_state.proofs.Walks.{drop_item}
use Rattle.zt_token_index.specs.Told.{id_of}
use Rattle.zt_tokens.specs.Answered.{answer_message, answer_told, id_after}

about_all : {A : Type 0} (xs : List A) → filter (λ _. true) xs ≡ xs
about_all [] = refl
about_all (x ∷ xs) = ap (λ ys. x ∷ ys) (about_all xs)

-- an interest without an expression is about all
pub about_none : {K : Type 0} (matching : K → K → Bool) (about : Option K) → about ≡ None → (xs : List K) → filter (is_about matching about) xs ≡ xs
about_none matching about none xs = rw none (about_all xs)

module _ {K : Type 0} (cmp : K → K → Ordering) (matching : K → K → Bool) where
  -- an interest that asks for tokens now is answered those visible expressions that it is about
  pub answered_is : (g : Rows K) (interest : InterestRow K) (f : Face K) → (is_current interest.mode && has_tokens interest.options) ≡ true
      → filter (is_about matching interest.expr) (visible_expressions cmp g f.region) ≡ answered_expressions cmp matching g interest f
  unfolding answered_expressions
  answered_is g interest f asks = rw asks refl

  -- the first expression's answer, and those of the others from the next id on
  answers_split : (next : ℕ) (told : ById K) (known : Option ℕ) (mode : InterestMode) (id : ℕ) (e : K) (es : List K) → (is_future mode ≡ true → known ≡ told_id cmp e told)
      → answers_from cmp matching next told mode id (e ∷ es) ≡ answer_message next known mode id e ∷ answers_from cmp matching (id_after next known mode) told mode id es
  unfolding answers_from
  answers_split next told known mode id e es is =
      (elim (is_future mode) as (λ b.
      (b ≡ true → known ≡ told_id cmp e told)
      → (if b then elim (told_id cmp e told) [ None ↦ message.DeclareToken next e (Some id) 0 ∷ answers_from cmp matching (next + 1) told mode id es | Some old ↦ message.DeclareToken old e (Some id) 0 ∷ answers_from cmp matching next told mode id es ] else message.DeclareToken 0 e (Some id) 0 ∷ answers_from cmp matching next told mode id es)
      ≡ message.DeclareToken (if b then unwrap_or known next else 0) e (Some id) 0 ∷ answers_from cmp matching (if b && is_none known then next + 1 else next) told mode id es) [
        | true ↦ λ same. rw (same refl) (elim (told_id cmp e told) as (λ o.
            elim o [ None ↦ message.DeclareToken next e (Some id) 0 ∷ answers_from cmp matching (next + 1) told mode id es | Some old ↦ message.DeclareToken old e (Some id) 0 ∷ answers_from cmp matching next told mode id es ]
            ≡ message.DeclareToken (unwrap_or o next) e (Some id) 0 ∷ answers_from cmp matching (if is_none o then next + 1 else next) told mode id es) [
              | None ↦ refl
              | Some old ↦ refl
            ])
        | false ↦ λ _. refl
      ]) is

  -- the answer of one expression
  answer_is : (next : ℕ) (told : ById K) (mode : InterestMode) (id : ℕ) (e : K) → answer_message next (told_id cmp e told) mode id e ∷ [] ≡ answers_from cmp matching next told mode id (e ∷ [])
  unfolding answers_from
  answer_is next told mode id e = sym (answers_split next told (told_id cmp e told) mode id e [] (λ _. refl))

  -- what a face is answered to its asks
  pub answers-by : (n id : ℕ) (e : K) (pairs : List (ℕ × ℕ)) (f : Face K) → id_of f.number pairs ≡ told_id cmp e f.told → answer_told cmp matching n id e pairs f ≡ answer_to cmp matching n id e f
  unfolding answer_to
  answers-by n id e pairs f is =
      ap (λ (told : Option ℕ). flat_map (λ row. if is_answered_by cmp matching n id e row.1 then answer_message f.next told row.1.interest.mode row.0 e ∷ [] else []) f.asks) is
      ∙ (λ i. flat_map (λ row. if is_answered_by cmp matching n id e row.1 then answer_is f.next f.told row.1.interest.mode row.0 e i else []) f.asks)

  -- what is answered so far and for the expressions left is all, one expression later too
  pub answers_more : (face next then_next : ℕ) (told : ById K) (known : Option ℕ) (mode : InterestMode) (id : ℕ) (es : List K) (i : ℕ) (e : K) (before after all : List (ℕ × Message K))
      → i < length es → e ≡ get_or es i e
      → (is_future mode ≡ true → known ≡ told_id cmp e told)
      → before ++ map (λ m. (face, m)) (answers_from cmp matching next told mode id (drop i es)) ≡ all
      → after ≡ before ++ (face, answer_message next known mode id e) ∷ []
      → then_next ≡ id_after next known mode
      → after ++ map (λ m. (face, m)) (answers_from cmp matching then_next told mode id (drop (i + 1) es)) ≡ all
  answers_more face next then_next told known mode id es i e before after all within is known_is left more drawn =
      let print : Message K → ℕ × Message K = λ m. (face, m) in
      let rest = answers_from cmp matching (id_after next known mode) told mode id (drop (i + 1) es) in
      (λ j. more j ++ map print (answers_from cmp matching (drawn j) told mode id (drop (i + 1) es)))
      ∙ append_assoc before ((face, answer_message next known mode id e) ∷ []) (map print rest)
      ∙ ap (λ ms. before ++ map print ms) (sym (answers_split next told known mode id e (drop (i + 1) es) known_is))
      ∙ ap (λ ks. before ++ map print (answers_from cmp matching next told mode id ks)) (sym (drop_item es i e within is))
      ∙ left

  -- behind the last expression all is answered
  pub answers_done : (face next : ℕ) (told : ById K) (mode : InterestMode) (id : ℕ) (es : List K) (i : ℕ) (before all : List (ℕ × Message K))
      → length es ≤ i → before ++ map (λ m. (face, m)) (answers_from cmp matching next told mode id (drop i es)) ≡ all → before ≡ all
  unfolding answers_from
  answers_done face next told mode id es i before all past left =
      sym (append-nil before)
      ∙ ap (λ ks. before ++ map (λ (m : Message K). (face, m)) (answers_from cmp matching next told mode id ks)) (sym (drop_all i es past))
      ∙ left

-- what is sent so far and for the rows left is all, one row later too
pub rows_one_less : {X M S : Type 0} (print : M → S) (rule : X → List M) (rest left : List X) (x : X) (before after all : List S)
    → before ++ map print (flat_map rule rest) ≡ all
    → rest ≡ x ∷ left
    → after ≡ before ++ map print (rule x)
    → after ++ map print (flat_map rule left) ≡ all
rows_one_less print rule rest left x before after all so_far first more =
    ap (λ sends. sends ++ map print (flat_map rule left)) more
    ∙ append_assoc before (map print (rule x)) (map print (flat_map rule left))
    ∙ ap (λ sends. before ++ sends) (sym (map-append print (rule x) (flat_map rule left)))
    ∙ ap (λ ys. before ++ map print (flat_map rule ys)) (sym first)
    ∙ so_far
