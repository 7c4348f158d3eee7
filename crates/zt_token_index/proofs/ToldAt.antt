-- The faces that were told an expression: the id that is found for each, and how many they are.
use Rattle.std.proofs.Common.{◌≡◌, ℕ, ◌==◌, Bool, true, false, ◌&&◌, ◌||◌, List, [], ◌∷◌, Option, is_some, ap, arith, filter, length, map, refl, subst, sym, ◌∙◌}
use Rattle.std.proofs.lemmas.Bool.{eqb-true}
use Rattle.std.proofs.lemmas.Bool.Decides.{nat_tests}
use Rattle.std.proofs.lemmas.List.{length-map}
use Rattle.std.proofs.lemmas.Map.Entries.{length-keys_of}
use Rattle.std.specs.FinMap.Entries.{below_all}
use Rattle.std.specs.List.{AllByRecursion, list_any}
use Rattle.std.specs.List.Sorted.{IsStrictlySortedBy}
use Rattle.std.specs.Map.{keys_of}
use Rattle.std.specs.Ordering.{is_eq, is_lt, nat_cmp}
use Rattle.std.specs.declared.cmp.Ordering.{Ordering}
use Rattle.std.specs.declared.cmp.Ordering.TheVariants.{Less, Equal, Greater}
use Rattle.zt_keys.specs.Test.{by_test}
use Rattle.zt_keys.specs.declared.anchor.Anchor.{Anchor}
use Rattle.zt_face.proofs.Told.{told_is_some}
use Rattle.zt_model.specs.Parts.{told_id}
use Rattle.zt_model.specs.Rows.{Face}
use Rattle.zt_model.specs.Visible.{keeps}
use Rattle.zt_token_index.specs.Told.{AreRising, id_of, told_at}
use Rattle.zt_token_index.specs.Seekers.{AreSeekers, Seeking}
use Rattle.zt_token_index.specs.Retold.{told_id_at}
use Rattle.zt_token_index.proofs.Numbers.{chosen_in, chosen_sorted, is_in, sorted_same}

-- ---- numbers
itself : (n : ℕ) → (n == n) ≡ true
itself n = grind (arith, nat_tests)

apart-above : (n m : ℕ) → nat_cmp n m ≡ Less → (m == n) ≡ false
apart-above n m h = grind (arith, nat_tests)

apart-below : (n m : ℕ) → nat_cmp n m ≡ Less → (n == m) ≡ false
apart-below n m h = grind (arith, nat_tests)

-- ---- tests
and_first : (a b : Bool) → (a && b) ≡ true → a ≡ true
and_first true b h = refl
and_first false b h = h

and_second : (a b : Bool) → (a && b) ≡ true → b ≡ true
and_second true b h = h
and_second false b h = cc

or_false : (b : Bool) → b ≡ (b || false)
or_false true = refl
or_false false = refl

lower : (o : Ordering) → is_lt o ≡ true → o ≡ Less
lower Less h = refl
lower Equal h = cc
lower Greater h = cc

-- ---- pairs of face and id
numbers-above : (n : ℕ) (pairs : List (ℕ × ℕ)) → below_all nat_cmp n pairs ≡ true → AllByRecursion (λ k. nat_cmp n k ≡ Less) (keys_of pairs)
numbers-above n [] above = tt
numbers-above n (pair ∷ pairs) above = (lower _ (and_first _ _ above), numbers-above n pairs (and_second _ _ above))

numbers-rise : (pairs : List (ℕ × ℕ)) → AreRising pairs → IsStrictlySortedBy nat_cmp (keys_of pairs)
unfolding IsStrictlySortedBy
numbers-rise [] rising = tt
numbers-rise (pair ∷ pairs) rising = (numbers-above pair.0 pairs (and_first _ _ rising), numbers-rise pairs (and_second _ _ rising))

numbers-found : (n : ℕ) (pairs : List (ℕ × ℕ)) → is_in n (keys_of pairs) ≡ is_some (id_of n pairs)
numbers-found n [] = refl
numbers-found n (pair ∷ pairs) = by_test (is_eq (nat_cmp n pair.0)) (λ t. rw t refl) (λ t. rw t (numbers-found n pairs))

module _ {K : Type 0} (cmp : K → K → Ordering) (e : K) where
  abbrev AreAbove : ℕ → List (Face K) → Type 0
  AreAbove n fs = AllByRecursion (λ k. nat_cmp n k ≡ Less) (map (λ f. f.number) fs)

  -- ---- what is found for each face
  pub at-here : (n : ℕ) (x : Face K) (xs : List (Face K)) → (n == x.number) ≡ true → told_id_at cmp e (x ∷ xs) n ≡ told_id cmp e x.told
  at-here n x xs t = rw (t, told_id_at) refl

  pub at-there : (n : ℕ) (x : Face K) (xs : List (Face K)) → (n == x.number) ≡ false → told_id_at cmp e (x ∷ xs) n ≡ told_id_at cmp e xs n
  at-there n x xs t = rw (t, told_id_at) refl

  own-behind : (x : Face K) (xs fs : List (Face K)) → AreAbove x.number fs → AllByRecursion (λ f. told_id_at cmp e xs f.number ≡ told_id cmp e f.told) fs → AllByRecursion (λ f. told_id_at cmp e (x ∷ xs) f.number ≡ told_id cmp e f.told) fs
  own-behind x xs [] above own = tt
  own-behind x xs (f ∷ fs) above own = (at-there f.number x xs (apart-above x.number f.number above.0) ∙ own.0, own-behind x xs fs above.1 own.1)

  own-found : (fs : List (Face K)) → IsStrictlySortedBy nat_cmp (map (λ f. f.number) fs) → AllByRecursion (λ f. told_id_at cmp e fs f.number ≡ told_id cmp e f.told) fs
  unfolding IsStrictlySortedBy
  own-found [] rising = tt
  own-found (x ∷ xs) rising = (at-here x.number x xs (itself x.number), own-behind x xs xs rising.0 (own-found xs rising.1))

  -- ---- for how many one is found
  none-keeps : (n : ℕ) (fs : List (Face K)) → AreAbove n fs → list_any (λ f. (n == f.number) && keeps cmp f e) fs ≡ false
  none-keeps n [] above = refl
  none-keeps n (f ∷ fs) above = rw (apart-below n f.number above.0) (none-keeps n fs above.1)

  found-keeps : (n : ℕ) (fs : List (Face K)) → IsStrictlySortedBy nat_cmp (map (λ f. f.number) fs) → is_some (told_id_at cmp e fs n) ≡ list_any (λ f. (n == f.number) && keeps cmp f e) fs
  unfolding IsStrictlySortedBy
  found-keeps n [] rising = refl
  found-keeps n (f ∷ fs) rising = by_test (n == f.number)
      (λ t.
      let others = none-keeps n fs (subst (λ m. AreAbove m fs) (sym (eqb-true n f.number t)) rising.0) in
      ap is_some (at-here n f fs t) ∙ rw (t, others) (told_is_some cmp e f.told ∙ or_false (keeps cmp f e)))
      (λ t. ap is_some (at-there n f fs t) ∙ rw t (found-keeps n fs rising.1))

  module _ (anchored : Anchor → K → Option ℕ) (seeking : Seeking K) (fs : List (Face K)) (rising : IsStrictlySortedBy nat_cmp (map (λ f. f.number) fs)) (are : AreSeekers cmp anchored seeking fs) where
    -- the id that is found for a face is that under which it was told
    pub ids-told : AllByRecursion (λ f. id_of f.number (told_at cmp e seeking.told) ≡ told_id cmp e f.told) fs
    ids-told = each fs (own-found fs rising)
      where
        each : (gs : List (Face K)) → AllByRecursion (λ f. told_id_at cmp e fs f.number ≡ told_id cmp e f.told) gs → AllByRecursion (λ f. id_of f.number (told_at cmp e seeking.told) ≡ told_id cmp e f.told) gs
        each [] own = tt
        each (g ∷ gs) own = (are.told e g.number ∙ own.0, each gs own.1)

    -- there is a pair for each face that was told the expression
    pub count-told : AreRising (told_at cmp e seeking.told) → length (told_at cmp e seeking.told) ≡ length (filter (λ f. keeps cmp f e) fs)
    count-told pairs_rise =
        let pairs = told_at cmp e seeking.told in
        let those = filter (λ f. keeps cmp f e) fs in
        let same : keys_of pairs ≡ map (λ f. f.number) those =
        sorted_same (keys_of pairs) (map (λ f. f.number) those) (numbers-rise pairs pairs_rise) (chosen_sorted (λ (f : Face K). f.number) (λ f. keeps cmp f e) fs rising)
        (λ n. numbers-found n pairs ∙ ap is_some (are.told e n) ∙ found-keeps n fs rising ∙ sym (chosen_in (λ (f : Face K). f.number) n (λ f. keeps cmp f e) fs)) in
        sym (length-keys_of pairs) ∙ ap length same ∙ length-map those (λ f. f.number)
