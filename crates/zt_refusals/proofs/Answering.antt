-- A token that is declared for an interest needs an id of the face whose ask it answers; else of those that a token
-- for none does.
use Rattle.std.proofs.Common.{◌≡◌, ◌&&◌, ◌||◌, ◌==◌, ℕ, Bool, true, false, not, nat_lt, if◌then◌else◌, List, [], ◌∷◌, Option, Some, None, ap, arith, le-ltb, refl, subst, sym, ◌∙◌}
use Rattle.std.proofs.lemmas.Bool.{and_parts, eqb-true}
use Rattle.std.specs.List.{AllByRecursion, list_any}
use Rattle.std.specs.declared.cmp.Ordering.{Ordering}
use Rattle.zt_keys.specs.Test.{by_test}
use Rattle.zt_faces.specs.Asked.{IsAskerOf, knows}
use Rattle.zt_faces.specs.Rising.{IsRising}
use Rattle.zt_faces.specs.declared.asked.Asker.{Asker}
use Rattle.zt_faces.specs.declared.asked.Asker.TheVariants.{Nobody, One}
use Rattle.zt_model.specs.Lists.{first_where, has_id, is_some_and}
use Rattle.zt_model.specs.Parts.{find_face, is_routed}
use Rattle.zt_model.specs.Refusals.{ids_for_token, is_answered_anew, left_ids}
use Rattle.zt_model.specs.Rows.{Ask, ById, Face, Rows}
use Rattle.zt_model.specs.Telling.{is_told, registers, was_sent_as}
use Rattle.zt_model.specs.Visible.{keeps}
use Rattle.zt_tokens.proofs.Chosen.{all-found}
use Rattle.zt_refusals.specs.Lacking.{answers_for_later, lacks_for_token}
use Rattle.zt_refusals.proofs.Askers.{any_of_found}

none_lower : (left : ℕ) → nat_lt left 0 ≡ false
none_lower left = le-ltb left 0 (omega arith)

and_false : (b : Bool) → (b && false) ≡ false
and_false true = refl
and_false false = refl

-- an id is needed by one that is told or answered; of one that isn't answered, by one that is told
weighed : (outside r told anew : Bool) (left : ℕ) → anew ≡ false
    → (outside && nat_lt left (if r && (told || anew) then 1 else 0)) ≡ (r && (outside && nat_lt left (if true && (told || false) then 1 else 0)))
weighed outside false told anew left off = ap (λ b. outside && b) (none_lower left) ∙ and_false outside
weighed outside true told true left off = cc
weighed outside true told false left off = refl

-- one that lacks none at all lacks none as one that isn't answered
weighed_none : (outside r told anew : Bool) (left : ℕ) → (outside && nat_lt left (if r && (told || anew) then 1 else 0)) ≡ false
    → (outside && nat_lt left (if r && (told || anew) then 1 else 0)) ≡ (r && (outside && nat_lt left (if true && (told || false) then 1 else 0)))
weighed_none outside false told anew left off = ap (λ b. outside && b) (none_lower left) ∙ and_false outside
weighed_none outside true true anew left off = refl
weighed_none outside true false anew left off = off ∙ sym (ap (λ b. outside && b) (none_lower left) ∙ and_false outside)

any_within : {A : Type 0} (r : Bool) (p : A → Bool) (xs : List A) → list_any (λ x. r && p x) xs ≡ (r && list_any p xs)
any_within true p xs = refl
any_within false p [] = refl
any_within false p (x ∷ xs) = any_within false p xs

module _ {K : Type 0} (cmp : K → K → Ordering) (matching : K → K → Bool) (n id : ℕ) (e : K) where
  -- rows that weren't sent so aren't answered
  unanswered : (asker : Asker) (m : ℕ) (rows : ById (Ask K)) → AllByRecursion (λ row. was_sent_as n id row.1 ≡ true → knows asker m row.0 ≡ true) rows
      → ((under : ℕ) → knows asker m under ≡ false) → (answered : ℕ × Ask K → Bool) → ((row : ℕ × Ask K) → was_sent_as n id row.1 ≡ false → answered row ≡ false)
      → list_any answered rows ≡ false
  unanswered asker m [] known unknown answered off = refl
  unanswered asker m (row ∷ rows) known unknown answered off =
      let unsent : was_sent_as n id row.1 ≡ false = by_test (was_sent_as n id row.1) (λ t. let yes = known.0 t in let no = unknown row.0 in cc) (λ t. t) in
      let here = off row unsent in
      rw here (unanswered asker m rows known.1 unknown answered off)

  module _ (from : Face K) (g : Rows K) (is : find_face n g ≡ Some from) where
    abbrev lacks_here : Face K → Bool
    lacks_here f = lacks_for_token cmp matching n (Some id) e g f

    abbrev lacks_else : Face K → Bool
    lacks_else f = registers from (Some id) && lacks_for_token cmp matching n None e g f

    ids_here : (f : Face K) → ids_for_token cmp matching n (Some id) e g f
        ≡ (if registers from (Some id) && (is_told cmp matching g from.region e f || is_answered_anew cmp matching n (Some id) e from f) then 1 else 0)
    ids_here f = rw (is, ids_for_token) refl

    ids_else : (f : Face K) → ids_for_token cmp matching n None e g f ≡ (if true && (is_told cmp matching g from.region e f || false) then 1 else 0)
    ids_else f = rw (is, ids_for_token) refl

    as_else : (f : Face K) → is_answered_anew cmp matching n (Some id) e from f ≡ false → lacks_here f ≡ lacks_else f
    as_else f off =
        ap (λ k. not (is_routed g f) && nat_lt (left_ids f) k) (ids_here f)
        ∙ weighed (not (is_routed g f)) (registers from (Some id)) (is_told cmp matching g from.region e f) (is_answered_anew cmp matching n (Some id) e from f) (left_ids f) off
        ∙ sym (ap (λ k. registers from (Some id) && (not (is_routed g f) && nat_lt (left_ids f) k)) (ids_else f))

    none_else : (f : Face K) → lacks_here f ≡ false → lacks_here f ≡ lacks_else f
    none_else f off =
        ap (λ k. not (is_routed g f) && nat_lt (left_ids f) k) (ids_here f)
        ∙ weighed_none (not (is_routed g f)) (registers from (Some id)) (is_told cmp matching g from.region e f) (is_answered_anew cmp matching n (Some id) e from f) (left_ids f)
        (sym (ap (λ k. not (is_routed g f) && nat_lt (left_ids f) k) (ids_here f)) ∙ off)
        ∙ sym (ap (λ k. registers from (Some id) && (not (is_routed g f) && nat_lt (left_ids f) k)) (ids_else f))

    -- a face that doesn't ask so isn't answered
    not_anew : (asker : Asker) (f : Face K) → AllByRecursion (λ row. was_sent_as n id row.1 ≡ true → knows asker f.number row.0 ≡ true) f.asks
        → ((under : ℕ) → knows asker f.number under ≡ false) → is_answered_anew cmp matching n (Some id) e from f ≡ false
    not_anew asker f known unknown =
        let none : answers_for_later cmp matching n id e f ≡ false = unanswered asker f.number f.asks known unknown _ (λ row off. rw off (and_false _)) in
        ap (λ b. has_id id from.pendings && (not (keeps cmp f e) && b)) none
        ∙ ap (λ b. has_id id from.pendings && b) (and_false (not (keeps cmp f e)))
        ∙ and_false (has_id id from.pendings)

    -- where nobody asks so
    nobody_each : (fs : List (Face K)) → IsAskerOf Nobody n id fs → list_any lacks_here fs ≡ list_any lacks_else fs
    nobody_each [] heard = refl
    nobody_each (f ∷ fs) heard =
        let here = as_else f (not_anew Nobody f heard.0 (λ under. refl)) in
        let rest = nobody_each fs heard.1 in
        λ i. here i || rest i

    pub nobody_lacks : (fs : List (Face K)) → IsAskerOf Nobody n id fs → list_any lacks_here fs ≡ (registers from (Some id) && list_any (lacks_for_token cmp matching n None e g) fs)
    nobody_lacks fs heard = nobody_each fs heard ∙ any_within (registers from (Some id)) (lacks_for_token cmp matching n None e g) fs

    -- where one does
    module _ (asker : ℕ) where
      pub asker_lacks : is_some_and (find_face asker g) lacks_here ≡ true → list_any lacks_here g.faces ≡ true
      asker_lacks t =
          elim (find_face asker g) as (λ o. find_face asker g ≡ o → is_some_and o lacks_here ≡ true → list_any lacks_here g.faces ≡ true) [
            | None ↦ λ found h. cc
            | Some f ↦ λ found h. any_of_found (λ x. asker == x.number) lacks_here g.faces f found h
          ] refl t

    module _ (asker under place : ℕ) where
      one_here : is_some_and (find_face asker g) lacks_here ≡ false → (f : Face K) → first_where (λ x. f.number == x.number) g.faces ≡ Some f
          → AllByRecursion (λ row. was_sent_as n id row.1 ≡ true → knows (One asker under place) f.number row.0 ≡ true) f.asks → lacks_here f ≡ lacks_else f
      one_here off f found known =
          by_test (asker == f.number)
          (λ t.
          let same = eqb-true asker f.number t in
          let here : find_face asker g ≡ Some f = subst (λ (m : ℕ). first_where (λ (x : Face K). m == x.number) g.faces ≡ Some f) (sym same) found in
          none_else f (ap (λ (o : Option (Face K)). is_some_and o lacks_here) (sym here) ∙ off))
          (λ t. as_else f (not_anew (One asker under place) f known (λ u. rw t refl)))

      one_each : is_some_and (find_face asker g) lacks_here ≡ false → (fs : List (Face K)) → AllByRecursion (λ f. first_where (λ x. f.number == x.number) g.faces ≡ Some f) fs
          → IsAskerOf (One asker under place) n id fs → list_any lacks_here fs ≡ list_any lacks_else fs
      one_each off [] found heard = refl
      one_each off (f ∷ fs) found heard =
          let here = one_here off f found.0 heard.0 in
          let rest = one_each off fs found.1 heard.1 in
          λ i. here i || rest i

      pub others_lack : IsRising (λ f. f.number) g.faces → IsAskerOf (One asker under place) n id g.faces → is_some_and (find_face asker g) lacks_here ≡ false
          → list_any lacks_here g.faces ≡ (registers from (Some id) && list_any (lacks_for_token cmp matching n None e g) g.faces)
      others_lack rising heard off =
          one_each off g.faces (all-found g.faces rising) heard
          ∙ any_within (registers from (Some id)) (lacks_for_token cmp matching n None e g) g.faces
