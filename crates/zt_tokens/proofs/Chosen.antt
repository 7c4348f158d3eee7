-- Faces that are given nothing may be passed over.
use Rattle.std.proofs.Common.{◌≡◌, ◌<◌, ℕ, ◌==◌, Bool, true, false, List, [], ◌∷◌, ◌++◌, Option, Some, None, ap, arith, filter, flat_map, map, refl, ◌∙◌}
use Rattle.std.proofs.lemmas.Bool.Decides.{nat_tests}
use Rattle.std.specs.List.{AllByRecursion}
use Rattle.zt_keys.specs.Test.{by_test}
use Rattle.zt_protocol.specs.declared.messages.Message.{Message}
use Rattle.zt_model.specs.Lists.{first_where}
use Rattle.zt_model.specs.Parts.{to_each}
use Rattle.zt_model.specs.Rows.{Face}
use Rattle.zt_faces.specs.Rising.{IsRising}
use Rattle.zt_tokens.specs.Walks.{given_at, sent_to}

same-number : (n : ℕ) → (n == n) ≡ true
same-number n = grind (arith, nat_tests)

above : (a b : ℕ) → a < b → (b == a) ≡ false
above a b h = grind (arith, nat_tests)

module _ {K : Type 0} where
  -- each face is found by its number
  pub all-found : (fs : List (Face K)) → IsRising (λ f. f.number) fs → AllByRecursion (λ f. first_where (λ x. f.number == x.number) fs ≡ Some f) fs
  all-found [] rising = tt
  all-found (f ∷ fs) rising = (let here = same-number f.number in rw here refl, later fs rising.0 (all-found fs rising.1))
    where
      later : (gs : List (Face K)) → AllByRecursion (λ x. f.number < x.number) gs → AllByRecursion (λ x. first_where (λ y. x.number == y.number) fs ≡ Some x) gs
          → AllByRecursion (λ x. first_where (λ y. x.number == y.number) (f ∷ fs) ≡ Some x) gs
      later [] up found = tt
      later (g ∷ gs) up found = (let apart = above f.number g.number up.0 in rw apart found.0, later gs up.1 found.1)

  pub everywhere : (P : Face K → Type 0) → ((f : Face K) → P f) → (fs : List (Face K)) → AllByRecursion P fs
  everywhere P all [] = tt
  everywhere P all (f ∷ fs) = (all f, everywhere P all fs)

  -- what holds of each face, where another thing does
  pub each-then : (P Q : Face K → Type 0) → ((f : Face K) → P f → Q f) → (fs : List (Face K)) → AllByRecursion P fs → AllByRecursion Q fs
  each-then P Q step [] all = tt
  each-then P Q step (f ∷ fs) all = (step f all.0, each-then P Q step fs all.1)

  module _ {B : Type 0} (give : Face K → List B) where
    -- those that pass are given the same by another rule, and the others nothing
    at_all : (other : Face K → List B) (fs gs : List (Face K)) (p : Face K → Bool) → AllByRecursion (λ f. p f ≡ true → other f ≡ give f) gs → AllByRecursion (λ f. p f ≡ false → give f ≡ []) gs
        → AllByRecursion (λ f. first_where (λ x. f.number == x.number) fs ≡ Some f) gs
        → flat_map (given_at other fs) (map (λ f. f.number) (filter p gs)) ≡ flat_map give gs
    at_all other fs [] p same none found = refl
    at_all other fs (g ∷ gs) p same none found =
        let rest = at_all other fs gs p same.1 none.1 found.1 in
        by_test (p g)
        (λ t.
        let here : given_at other fs g.number ≡ give g = ap (λ (o : Option (Face K)). elim o [ None ↦ [] | Some f ↦ other f ]) found.0 ∙ same.0 t in
        rw t (λ i. here i ++ rest i))
        (λ t. let nothing = none.0 t in rw (t, nothing) rest)

    -- those that a test passes over are given nothing: the numbers of the others serve
    pub chosen_numbers : (fs : List (Face K)) (p : Face K → Bool) → IsRising (λ f. f.number) fs → ((f : Face K) → p f ≡ false → give f ≡ []) → flat_map (given_at give fs) (map (λ f. f.number) (filter p fs)) ≡ flat_map give fs
    chosen_numbers fs p rising none = at_all give fs fs p (everywhere (λ f. p f ≡ true → give f ≡ give f) (λ f t. refl) fs) (everywhere (λ f. p f ≡ false → give f ≡ []) none fs) (all-found fs rising)

  each_is : (rule : Face K → List (Message K)) (fs : List (Face K)) → flat_map (sent_to rule) fs ≡ to_each rule fs
  unfolding to_each
  each_is rule [] = refl
  each_is rule (f ∷ fs) = ap (λ sends. sent_to rule f ++ sends) (each_is rule fs)

  -- messages of a rule that says nothing to those passed over
  pub chosen_each : (rule : Face K → List (Message K)) (fs : List (Face K)) (p : Face K → Bool) → IsRising (λ f. f.number) fs → ((f : Face K) → p f ≡ false → rule f ≡ []) → flat_map (given_at (sent_to rule) fs) (map (λ f. f.number) (filter p fs)) ≡ to_each rule fs
  chosen_each rule fs p rising none = chosen_numbers (sent_to rule) fs p rising (λ f h. ap (map (λ m. (f.number, m))) (none f h)) ∙ each_is rule fs

  -- rules that say the same to each of these faces
  pub each_alike : (rule other : Face K → List (Message K)) (fs : List (Face K)) → AllByRecursion (λ f. other f ≡ rule f) fs → to_each other fs ≡ to_each rule fs
  unfolding to_each
  each_alike rule other [] same = refl
  each_alike rule other (f ∷ fs) same = let rest = each_alike rule other fs same.1 in λ i. map (λ m. (f.number, m)) (same.0 i) ++ rest i

  -- messages of a rule that says nothing to those passed over, by another that says the same to those that pass
  pub chosen_alike : (rule other : Face K → List (Message K)) (fs : List (Face K)) (p : Face K → Bool) → IsRising (λ f. f.number) fs
      → AllByRecursion (λ f. p f ≡ true → other f ≡ rule f) fs → AllByRecursion (λ f. p f ≡ false → rule f ≡ []) fs
      → flat_map (given_at (sent_to other) fs) (map (λ f. f.number) (filter p fs)) ≡ to_each rule fs
  chosen_alike rule other fs p rising same none =
      at_all (sent_to rule) (sent_to other) fs fs p
      (each-then (λ f. p f ≡ true → other f ≡ rule f) (λ f. p f ≡ true → sent_to other f ≡ sent_to rule f) (λ f h t. ap (map (λ m. (f.number, m))) (h t)) fs same)
      (each-then (λ f. p f ≡ false → rule f ≡ []) (λ f. p f ≡ false → sent_to rule f ≡ []) (λ f h t. ap (map (λ m. (f.number, m))) (h t)) fs none)
      (all-found fs rising)
      ∙ each_is rule fs
