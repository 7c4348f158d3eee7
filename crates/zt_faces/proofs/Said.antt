-- What is said for the asks that were sent to one face under one id, where it is known whose these are: what is said
-- for that one.
use Rattle.std.proofs.Common.{◌≡◌, ℕ, ◌==◌, Bool, true, false, List, [], ◌∷◌, ◌++◌, Option, Some, None, ap, arith, flat_map, map, refl, subst, sym, ◌∙◌}
use Rattle.std.proofs.lemmas.Bool.{eqb-true}
use Rattle.std.proofs.lemmas.Bool.Decides.{nat_tests}
use Rattle.std.proofs.lemmas.List.{append-nil}
use Rattle.std.proofs.lemmas.Map.Keys.{sorted_head, sorted_tail}
use Rattle.std.specs.List.{AllByRecursion}
use Rattle.std.specs.Map.{keys_of}
use Rattle.std.specs.Ordering.{nat_cmp}
use Rattle.std.specs.declared.cmp.Ordering.TheVariants.{Less}
use Rattle.zt_keys.specs.Test.{by_test}
use Rattle.zt_protocol.specs.declared.messages.Message.{Message}
use Rattle.zt_faces.specs.Asked.{IsAskerOf, knows}
use Rattle.zt_faces.specs.Rising.{HasNone, IsRising}
use Rattle.zt_faces.specs.declared.asked.Asker.TheVariants.{Nobody, One}
use Rattle.zt_faces.proofs.Rising.{none-above}
use Rattle.zt_model.specs.Lists.{at_id, first_where}
use Rattle.zt_model.specs.Parts.{to_each}
use Rattle.zt_model.specs.Rows.{Ask, ById, Face}
use Rattle.zt_model.specs.Telling.{was_sent_as}
use Rattle.zt_rows.specs.ById.{IsInOrder}

apart : (u k : ℕ) → nat_cmp u k ≡ Less → (u == k) ≡ false
apart u k is = grind (arith, nat_tests)

-- ---- one row among others

module _ {X M : Type 0} (say : ℕ × X → List M) where
  abbrev pub said_at : ℕ → Option X → List M
  said_at u None = []
  said_at u (Some x) = say (u, x)

  rows-silent : (rows : ById X) → AllByRecursion (λ row. say row ≡ []) rows → flat_map say rows ≡ []
  rows-silent [] silent = refl
  rows-silent (row ∷ rows) silent = let here = silent.0 in rw here (rows-silent rows silent.1)

  later-silent : (u : ℕ) (rows : ById X) → AllByRecursion (λ k. nat_cmp u k ≡ Less) (keys_of rows) → AllByRecursion (λ row. (u == row.0) ≡ false → say row ≡ []) rows → AllByRecursion (λ row. say row ≡ []) rows
  later-silent u [] below silent = tt
  later-silent u (row ∷ rows) below silent = (silent.0 (apart u row.0 below.0), later-silent u rows below.1 silent.1)

  row-alone : (u : ℕ) (rows : ById X) → IsInOrder rows → AllByRecursion (λ row. (u == row.0) ≡ false → say row ≡ []) rows → flat_map say rows ≡ said_at u (at_id u rows)
  row-alone u [] ordered silent = refl
  row-alone u (row ∷ rows) ordered silent =
      by_test (u == row.0)
      (λ t.
      let one : u ≡ row.0 = eqb-true u row.0 t in
      let below = subst (λ k. AllByRecursion (λ j. nat_cmp k j ≡ Less) (keys_of rows)) (sym one) (sorted_head nat_cmp row.0 (keys_of rows) ordered) in
      rw t (ap (λ said. say row ++ said) (rows-silent rows (later-silent u rows below silent.1)) ∙ append-nil (say row) ∙ ap (λ k. say (k, row.1)) (sym one)))
      (λ t. let here = silent.0 t in rw (t, here) (row-alone u rows (sorted_tail nat_cmp row.0 (keys_of rows) ordered) silent.1))

-- ---- one face among others

module _ {A : Type 0} where
  some-same : (a b : A) → Some a ≡ Some b → a ≡ b
  some-same a b is = cc

  found-all : (P : A → Type 0) (p : A → Bool) (xs : List A) (x : A) → AllByRecursion P xs → first_where p xs ≡ Some x → P x
  found-all P p [] x all found = cc
  found-all P p (y ∷ xs) x all found =
      by_test (p y)
      (λ t. let same : Some y ≡ Some x = rw t at found in subst P (some-same y x same) all.0)
      (λ t. found-all P p xs x all.1 (rw t at found))

  found-passes : (p : A → Bool) (xs : List A) (x : A) → first_where p xs ≡ Some x → p x ≡ true
  found-passes p [] x found = cc
  found-passes p (y ∷ xs) x found =
      by_test (p y)
      (λ t. let same : Some y ≡ Some x = rw t at found in subst (λ z. p z ≡ true) (some-same y x same) t)
      (λ t. found-passes p xs x (rw t at found))

module _ {K : Type 0} (rule : Face K → List (Message K)) where
  abbrev said_by : Option (Face K) → List (ℕ × Message K)
  said_by None = []
  said_by (Some f) = map (λ m. (f.number, m)) (rule f)

  each-silent : (faces : List (Face K)) → AllByRecursion (λ f. rule f ≡ []) faces → to_each rule faces ≡ []
  unfolding to_each
  each-silent [] silent = refl
  each-silent (f ∷ faces) silent = let here = silent.0 in rw here (each-silent faces silent.1)

  others-silent : (a : ℕ) (faces : List (Face K)) → HasNone (λ f. f.number) a faces → AllByRecursion (λ f. (a == f.number) ≡ false → rule f ≡ []) faces → AllByRecursion (λ f. rule f ≡ []) faces
  others-silent a [] none silent = tt
  others-silent a (f ∷ faces) none silent = (silent.0 none.0, others-silent a faces none.1 silent.1)

  face-alone : (a : ℕ) (faces : List (Face K)) → IsRising (λ f. f.number) faces → AllByRecursion (λ f. (a == f.number) ≡ false → rule f ≡ []) faces → to_each rule faces ≡ said_by (first_where (λ f. a == f.number) faces)
  unfolding to_each
  face-alone a [] rising silent = refl
  face-alone a (f ∷ faces) rising silent =
      by_test (a == f.number)
      (λ t.
      let none = subst (λ k. HasNone (λ (g : Face K). g.number) k faces) (sym (eqb-true a f.number t)) (none-above (λ (g : Face K). g.number) f.number faces rising.0) in
      rw t (ap (λ said. map (λ m. (f.number, m)) (rule f) ++ said) (each-silent faces (others-silent a faces none silent.1)) ∙ append-nil (map (λ m. (f.number, m)) (rule f))))
      (λ t. let here = silent.0 t in rw (t, here) (face-alone a faces rising.1 silent.1))

-- ---- what a rule says for asks that were sent so, and for no others

module _ {K : Type 0} (n id : ℕ) (say : Face K → ℕ × Ask K → List (Message K)) (silent : (f : Face K) (row : ℕ × Ask K) → was_sent_as n id row.1 ≡ false → say f row ≡ []) (rule : Face K → List (Message K)) (is : (f : Face K) → rule f ≡ flat_map (say f) f.asks) where
  unknown-silent : (f : Face K) (row : ℕ × Ask K) (known : Bool) → (was_sent_as n id row.1 ≡ true → known ≡ true) → known ≡ false → say f row ≡ []
  unknown-silent f row known heard unknown = by_test (was_sent_as n id row.1) (λ t. let one = heard t in cc) (λ t. silent f row t)

  nobody-in : (f : Face K) (rows : ById (Ask K)) → AllByRecursion (λ row. was_sent_as n id row.1 ≡ true → knows Nobody f.number row.0 ≡ true) rows → AllByRecursion (λ row. say f row ≡ []) rows
  nobody-in f [] heard = tt
  nobody-in f (row ∷ rows) heard = (unknown-silent f row false heard.0 refl, nobody-in f rows heard.1)

  nobody-each : (faces : List (Face K)) → IsAskerOf Nobody n id faces → AllByRecursion (λ f. rule f ≡ []) faces
  nobody-each [] heard = tt
  nobody-each (f ∷ faces) heard = (is f ∙ rows-silent (say f) f.asks (nobody-in f f.asks heard.0), nobody-each faces heard.1)

  -- nothing where nobody asked so
  pub nobody-said : (faces : List (Face K)) → IsAskerOf Nobody n id faces → to_each rule faces ≡ []
  nobody-said faces heard = each-silent rule faces (nobody-each faces heard)

  module _ (a u place : ℕ) where
    abbrev HeardOf : ℕ → ById (Ask K) → Type 0
    HeardOf k rows = AllByRecursion (λ row. was_sent_as n id row.1 ≡ true → knows (One a u place) k row.0 ≡ true) rows

    other-face : (f : Face K) → (a == f.number) ≡ false → (rows : ById (Ask K)) → HeardOf f.number rows → AllByRecursion (λ row. say f row ≡ []) rows
    other-face f other [] heard = tt
    other-face f other (row ∷ rows) heard = (unknown-silent f row _ heard.0 (rw other refl), other-face f other rows heard.1)

    other-rows : (f : Face K) (rows : ById (Ask K)) → (a == f.number) ≡ true → HeardOf f.number rows → AllByRecursion (λ row. (u == row.0) ≡ false → say f row ≡ []) rows
    other-rows f [] here heard = tt
    other-rows f (row ∷ rows) here heard = (λ other. unknown-silent f row _ heard.0 (rw (here, other) refl), other-rows f rows here heard.1)

    others-each : (faces : List (Face K)) → IsAskerOf (One a u place) n id faces → AllByRecursion (λ f. (a == f.number) ≡ false → rule f ≡ []) faces
    others-each [] heard = tt
    others-each (f ∷ faces) heard = (λ other. is f ∙ rows-silent (say f) f.asks (other-face f other f.asks heard.0), others-each faces heard.1)

    module _ (faces : List (Face K)) (rising : IsRising (λ f. f.number) faces) (heard : IsAskerOf (One a u place) n id faces) where
      -- nothing where the face isn't open that asked so
      pub closed-said : first_where (λ f. a == f.number) faces ≡ None → to_each rule faces ≡ []
      closed-said none = face-alone rule a faces rising (others-each faces heard) ∙ ap (said_by rule) none

      -- else what is said for its ask
      pub one-said : (f : Face K) → first_where (λ f. a == f.number) faces ≡ Some f → IsInOrder f.asks → to_each rule faces ≡ map (λ m. (f.number, m)) (said_at (say f) u (at_id u f.asks))
      one-said f found ordered =
          face-alone rule a faces rising (others-each faces heard)
          ∙ ap (said_by rule) found
          ∙ ap (map (λ m. (f.number, m)))
          (is f
          ∙ row-alone (say f) u f.asks ordered
          (other-rows f f.asks (found-passes (λ (g : Face K). a == g.number) faces f found) (found-all (λ (g : Face K). HeardOf g.number g.asks) (λ g. a == g.number) faces f heard found)))
