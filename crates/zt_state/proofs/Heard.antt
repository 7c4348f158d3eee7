-- Messages that are heard one after another.
use Rattle.std.proofs.Common.{◌≡◌, ℕ, ◌==◌, Bool, true, false, if◌then◌else◌, List, [], ◌∷◌, ap, arith, map, refl, ◌∙◌}
use Rattle.std.proofs.lemmas.Bool.Decides.{nat_tests}
use Rattle.std.specs.declared.cmp.Ordering.{Ordering}
use Rattle.zt_protocol.specs.declared.messages.Message.{Message}
use Rattle.zt_model.specs.Hearing.{heard, heard_all, messages_for, rows_heard}
use Rattle.zt_model.specs.Parts.{Sends, with_face}
use Rattle.zt_model.specs.Rows.{Face, Rows}
use Rattle.zt_state.specs.Keeps.{heard-keeps}

turned : (n m : ℕ) → (n == m) ≡ (m == n)
turned n m = grind (arith, nat_tests)

map_alike : {A B : Type 0} (f h : A → B) → ((x : A) → f x ≡ h x) → (xs : List A) → map f xs ≡ map h xs
map_alike f h same [] = refl
map_alike f h same (x ∷ xs) = λ i. same x i ∷ map_alike f h same xs i

map_twice : {A B C : Type 0} (f : B → C) (h : A → B) (xs : List A) → map f (map h xs) ≡ map (λ x. f (h x)) xs
map_twice f h [] = refl
map_twice f h (x ∷ xs) = ap (λ ys. f (h x) ∷ ys) (map_twice f h xs)

map_id : {A : Type 0} (xs : List A) → map (λ x. x) xs ≡ xs
map_id [] = refl
map_id (x ∷ xs) = ap (λ ys. x ∷ ys) (map_id xs)

module _ {K : Type 0} (cmp : K → K → Ordering) where
  -- a message that one face hears
  pub one_heard : (n : ℕ) (m : Message K) (g : Rows K) → with_face n (heard cmp g.moment m) g ≡ rows_heard cmp ((n, m) ∷ []) g
  unfolding with_face rows_heard messages_for heard_all
  one_heard n m g = ap (λ (fs : List (Face K)). record g { faces = fs }) (map_alike _ _ (λ f. (λ i. if turned n f.number i then heard cmp g.moment m f else f) ∙ by_number (f.number == n) f) g.faces)
    where
      by_number : (b : Bool) (f : Face K) → (if b then heard cmp g.moment m f else f) ≡ heard_all cmp g.moment (if b then m ∷ [] else []) f
      by_number true f = refl
      by_number false f = refl

  -- the first message, and then the others
  pub first_heard : (s : ℕ × Message K) (ss : Sends K) (g : Rows K) → rows_heard cmp ss (rows_heard cmp (s ∷ []) g) ≡ rows_heard cmp (s ∷ ss) g
  unfolding rows_heard messages_for heard_all
  first_heard s ss g = ap (λ (fs : List (Face K)). record g { faces = fs }) (map_twice _ _ g.faces ∙ map_alike _ _ (λ f. by_number (f.number == s.0) f) g.faces)
    where
      rest : Face K → Face K
      rest f = heard_all cmp g.moment (messages_for f.number ss) f

      by_number : (b : Bool) (f : Face K)
          → rest (heard_all cmp g.moment (if b then s.1 ∷ [] else []) f) ≡ heard_all cmp g.moment (if b then s.1 ∷ messages_for f.number ss else messages_for f.number ss) f
      by_number true f = ap (λ n. heard_all cmp g.moment (messages_for n ss) (heard cmp g.moment s.1 f)) ((heard-keeps cmp g.moment s.1 f).number)
      by_number false f = refl

  pub none_heard : (g : Rows K) → rows_heard cmp [] g ≡ g
  unfolding rows_heard messages_for heard_all
  none_heard g = ap (λ (fs : List (Face K)). record g { faces = fs }) (map_id g.faces)
