-- Faces are given what a rule gives by their numbers in order: faces of other numbers are given nothing.
use Rattle.std.proofs.Common.{◌≡◌, ◌<◌, ◌==◌, ℕ, Bool, true, false, List, [], ◌∷◌, ◌++◌, Option, Some, None, ap, arith, flat_map, map, refl, subst, sym, ◌∙◌}
use Rattle.std.proofs.lemmas.Bool.Decides.{nat_tests}
use Rattle.std.specs.List.{AllByRecursion}
use Rattle.std.specs.List.Sorted.{IsStrictlySortedBy}
use Rattle.std.specs.Ordering.{nat_cmp}
use Rattle.std.specs.declared.cmp.Ordering.TheVariants.{Less, Equal, Greater}
use Rattle.zt_protocol.specs.declared.messages.Message.{Message}
use Rattle.zt_model.specs.Lists.{first_where}
use Rattle.zt_model.specs.Parts.{to_each}
use Rattle.zt_model.specs.Rows.{Face}
use Rattle.zt_faces.specs.Rising.{IsRising}
use Rattle.zt_tokens.specs.Walks.{given_at, sent_to}
use Rattle.zt_tokens.proofs.Chosen.{everywhere}
use Rattle.zt_routers.specs.Reached.{KeepsAll, has}

less : (n m : ℕ) → nat_cmp n m ≡ Less → n < m
less n m h = grind (arith, nat_tests)

equal : (n m : ℕ) → nat_cmp n m ≡ Equal → n ≡ m
equal n m h = grind (arith, nat_tests)

greater : (n m : ℕ) → nat_cmp n m ≡ Greater → m < n
greater n m h = grind (arith, nat_tests)

apart : (n m : ℕ) → n < m → (n == m) ≡ false
apart n m h = grind (arith, nat_tests)

apart-above : (n m : ℕ) → m < n → (n == m) ≡ false
apart-above n m h = grind (arith, nat_tests)

itself : (n : ℕ) → (n == n) ≡ true
itself n = grind (arith, nat_tests)

module _ (n : ℕ) where
  above-all : (m : ℕ) → n < m → (ks : List ℕ) → AllByRecursion (λ k. nat_cmp m k ≡ Less) ks → has n ks ≡ false
  above-all m lt [] all = refl
  above-all m lt (k ∷ ks) all = let here = apart n k (omega (arith, lt, less m k all.0)) in rw here (above-all m lt ks all.1)

module _ {K : Type 0} {B : Type 0} (give : Face K → List B) where
  nothing : (fs : List (Face K)) → AllByRecursion (λ f. has f.number [] ≡ false → give f ≡ []) fs → flat_map give fs ≡ []
  nothing [] none = refl
  nothing (f ∷ fs) none = let here = none.0 refl in rw here (nothing fs none.1)

  unfound : (n : ℕ) (fs : List (Face K)) → AllByRecursion (λ f. n < f.number) fs → given_at give fs n ≡ []
  unfound n fs above = ap (λ (o : Option (Face K)). elim o [ None ↦ [] | Some f ↦ give f ]) (none fs above)
    where
      none : (gs : List (Face K)) → AllByRecursion (λ f. n < f.number) gs → first_where (λ f. n == f.number) gs ≡ None
      none [] above = refl
      none (g ∷ gs) above = let here = apart n g.number above.0 in rw here (none gs above.1)

  abbrev given : Option (Face K) → List B
  given found = elim found [ None ↦ [] | Some f ↦ give f ]

  first_found : (n : ℕ) (f : Face K) (fs : List (Face K)) → (n == f.number) ≡ true → first_where (λ x. n == x.number) (f ∷ fs) ≡ Some f
  first_found n f fs is = rw is refl

  first_passed : (n : ℕ) (f : Face K) (fs : List (Face K)) → (n == f.number) ≡ false → first_where (λ x. n == x.number) (f ∷ fs) ≡ first_where (λ x. n == x.number) fs
  first_passed n f fs is = rw is refl

  -- by numbers above that of the first face, those behind it are found
  behind : (f : Face K) (fs : List (Face K)) (ns : List ℕ) → AllByRecursion (λ n. f.number < n) ns → flat_map (given_at give (f ∷ fs)) ns ≡ flat_map (given_at give fs) ns
  behind f fs [] above = refl
  behind f fs (n ∷ ns) above = ap (λ o. given o ++ flat_map (given_at give (f ∷ fs)) ns) (first_passed n f fs (apart-above n f.number above.0)) ∙ ap (λ xs. given_at give fs n ++ xs) (behind f fs ns above.1)

  all-above : (m n : ℕ) → m < n → (ns : List ℕ) → AllByRecursion (λ k. nat_cmp n k ≡ Less) ns → AllByRecursion (λ k. m < k) ns
  all-above m n lt [] all = tt
  all-above m n lt (k ∷ ks) all = (omega (arith, lt, less n k all.0), all-above m n lt ks all.1)

  -- the faces' numbers are above one that isn't there any more
  further : (n : ℕ) (ns : List ℕ) (fs : List (Face K)) → AllByRecursion (λ f. n < f.number) fs → AllByRecursion (λ f. has f.number (n ∷ ns) ≡ false → give f ≡ []) fs
      → AllByRecursion (λ f. has f.number ns ≡ false → give f ≡ []) fs
  further n ns [] above none = tt
  further n ns (f ∷ fs) above none = ((λ h. none.0 (let here = apart-above f.number n above.0 in rw here h)), further n ns fs above.1 none.1)

  lower : (n m : ℕ) → n < m → (fs : List (Face K)) → AllByRecursion (λ f. m < f.number) fs → AllByRecursion (λ f. n < f.number) fs
  lower n m lt [] above = tt
  lower n m lt (f ∷ fs) above = (omega (arith, lt, above.0), lower n m lt fs above.1)

  abbrev Passes : List (Face K) → List ℕ → Type 0
  Passes fs ns = IsStrictlySortedBy nat_cmp ns → AllByRecursion (λ f. has f.number ns ≡ false → give f ≡ []) fs → flat_map (given_at give fs) ns ≡ flat_map give fs

  -- those of the first face and of all behind it, where those behind it are known
  step : (f : Face K) (fs : List (Face K)) → AllByRecursion (λ x. f.number < x.number) fs → ((ns : List ℕ) → Passes fs ns) → (ns : List ℕ) → Passes (f ∷ fs) ns
  unfolding IsStrictlySortedBy
  step f fs above rest [] sorted none = sym (nothing (f ∷ fs) none)
  step f fs above rest (n ∷ ns) sorted none =
      elim (nat_cmp n f.number) as (λ o. nat_cmp n f.number ≡ o → flat_map (given_at give (f ∷ fs)) (n ∷ ns) ≡ flat_map give (f ∷ fs)) [
        | Less ↦ λ is.
            let lt = less n f.number is in
            let all_above : AllByRecursion (λ x. n < x.number) (f ∷ fs) = (lt, lower n f.number lt fs above) in
            ap (λ xs. xs ++ flat_map (given_at give (f ∷ fs)) ns) (unfound n (f ∷ fs) all_above)
            ∙ step f fs above rest ns sorted.1 (further n ns (f ∷ fs) all_above none)
        | Equal ↦ λ is.
            let same = equal n f.number is in
            let up : AllByRecursion (λ x. n < x.number) fs = subst (λ (m : ℕ). AllByRecursion (λ x. m < x.number) fs) (sym same) above in
            let later : AllByRecursion (λ k. f.number < k) ns = subst (λ (m : ℕ). AllByRecursion (λ k. m < k) ns) same (sorted_above n ns sorted.0) in
            ap (λ (m : ℕ). given_at give (f ∷ fs) m ++ flat_map (given_at give (f ∷ fs)) ns) same
            ∙ ap (λ o. given o ++ flat_map (given_at give (f ∷ fs)) ns) (first_found f.number f fs (itself f.number))
            ∙ ap (λ xs. give f ++ xs) (behind f fs ns later ∙ rest ns sorted.1 (further n ns fs up none.1))
        | Greater ↦ λ is.
            let lt = greater n f.number is in
            let later : AllByRecursion (λ k. f.number < k) (n ∷ ns) = (lt, all-above f.number n lt ns sorted.0) in
            let unknown : has f.number (n ∷ ns) ≡ false = let here = apart f.number n lt in rw here (above-all f.number n lt ns sorted.0) in
            behind f fs (n ∷ ns) later
            ∙ rest (n ∷ ns) sorted none.1
            ∙ ap (λ xs. xs ++ flat_map give fs) (sym (none.0 unknown))
      ] refl
    where
      sorted_above : (m : ℕ) (ks : List ℕ) → AllByRecursion (λ k. nat_cmp m k ≡ Less) ks → AllByRecursion (λ k. m < k) ks
      sorted_above m [] all = tt
      sorted_above m (k ∷ ks) all = (less m k all.0, sorted_above m ks all.1)

  -- by numbers in order, among which are those of all faces that are given something
  pub passed_over : (fs : List (Face K)) (ns : List ℕ) → IsRising (λ f. f.number) fs → Passes fs ns
  passed_over [] [] rising sorted none = refl
  passed_over [] (n ∷ ns) rising sorted none = nobody (n ∷ ns)
    where
      nobody : (ks : List ℕ) → flat_map (given_at give []) ks ≡ []
      nobody [] = refl
      nobody (k ∷ ks) = nobody ks
  passed_over (f ∷ fs) ns rising sorted none = step f fs rising.0 (λ ks. passed_over fs ks rising.1) ns sorted none

lost : (a b : Bool) → (a ≡ true → b ≡ true) → b ≡ false → a ≡ false
lost true b kept off = sym (kept refl) ∙ off
lost false b kept off = refl

module _ {K : Type 0} (rule : Face K → List (Message K)) where
  each_is : (fs : List (Face K)) → flat_map (sent_to rule) fs ≡ to_each rule fs
  unfolding to_each
  each_is [] = refl
  each_is (f ∷ fs) = ap (λ sends. sent_to rule f ++ sends) (each_is fs)

  -- what a rule says that says nothing to faces of other numbers than some, by these in order
  pub said_among : (fs : List (Face K)) (some ns : List ℕ) → IsRising (λ f. f.number) fs → IsStrictlySortedBy nat_cmp ns → KeepsAll some ns
      → ((f : Face K) → has f.number some ≡ false → rule f ≡ []) → flat_map (given_at (sent_to rule) fs) ns ≡ to_each rule fs
  said_among fs some ns rising sorted kept silent =
      passed_over (sent_to rule) fs ns rising sorted
      (everywhere (λ f. has f.number ns ≡ false → sent_to rule f ≡ [])
      (λ f off. ap (map (λ m. (f.number, m))) (silent f (lost (has f.number some) (has f.number ns) (kept f.number) off))) fs)
      ∙ each_is fs
