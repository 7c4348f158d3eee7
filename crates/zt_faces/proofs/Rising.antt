-- Things with rising numbers, found and changed by their numbers.
use Rattle.std.proofs.Common.{◌≡◌, ℕ, zero, suc, ◌+◌, ◌<◌, ◌≤◌, ◌==◌, Bool, true, false, not, if◌then◌else◌, List, [], ◌∷◌, ◌++◌, Some, None, Result, Ok, Err, OnOk, OnErr, nat_lt, subst, add-one, ap, arith, filter, get_or, length, map, refl, set, sym, ◌∙◌}
use Rattle.std.proofs.lemmas.Bool.Decides.{nat_tests}
use Rattle.std.proofs.lemmas.Cmp.{nat_cmp_total}
use Rattle.std.proofs.lemmas.List.Elements.{recursion_from_All}
use Rattle.std.proofs.lemmas.List.Sorted.{searchable_from_sorted}
use Rattle.std.specs.List.{AllByRecursion, remove}
use Rattle.std.specs.List.Sorted.{IsBinarySearchResult, IsSearchInRange}
use Rattle.std.specs.Ordering.{is_lt, nat_cmp}
use Rattle.std.specs.declared.cmp.Ordering.TheVariants.{Less, Equal, Greater}
use Rattle.zt_keys.specs.Test.{by_test}
use Rattle.zt_model.specs.Lists.{first_where}
use Rattle.zt_faces.specs.Rising.{AreUpTo, HasNone, IsPlace, IsRising}

not-less : (a b : ℕ) → a < b → is_lt (nat_cmp b a) ≡ false
not-less a b h = grind (arith, nat_tests)

below-or-not : {P : Type 0} (k i : ℕ) → (k < i → P) → (i ≤ k → P) → P
below-or-not k i below above = by_test (nat_lt k i) (λ t. below (grind (arith, nat_tests))) (λ t. above (grind (arith, nat_tests)))

apart-below : (a n : ℕ) → nat_cmp a n ≡ Less → (n == a) ≡ false
apart-below a n h = grind (arith, nat_tests)

apart-above : (a n : ℕ) → nat_cmp a n ≡ Greater → (n == a) ≡ false
apart-above a n h = grind (arith, nat_tests)

tied : (a n : ℕ) → nat_cmp a n ≡ Equal → a ≡ n
tied a n h = grind (arith, nat_tests)

pub unequal : (n a : ℕ) → a < n → (n == a) ≡ false
unequal n a h = grind (arith, nat_tests)

unequal-above : (n a : ℕ) → n < a → (n == a) ≡ false
unequal-above n a h = grind (arith, nat_tests)

pub equal : (n a : ℕ) → a ≡ n → (n == a) ≡ true
equal n a h = grind (arith, nat_tests)

-- what follows from either result
pub either-way : {T E P Q G : Type 0} (r : Result T E) → OnOk r P → OnErr r Q → (P → G) → (Q → G) → G
either-way (Ok x) p q ok err = ok p
either-way (Err y) p q ok err = err q

-- some member of a list that has one
pub some-of : {A : Type 0} (xs : List A) (i : ℕ) → i < length xs → A
some-of [] i lt = absurd (omega arith)
some-of (x ∷ xs) i lt = x

module _ {A : Type 0} (P Q : A → Type 0) (weaker : (x : A) → P x → Q x) where
  pub all-weaker : (xs : List A) → AllByRecursion P xs → AllByRecursion Q xs
  all-weaker [] h = tt
  all-weaker (x ∷ xs) h = (weaker x h.0, all-weaker xs h.1)

  all-at : (xs : List A) (i : ℕ) (d : A) → AllByRecursion P xs → i < length xs → P (get_or xs i d)
  all-at [] i d h lt = absurd (omega arith)
  all-at (x ∷ xs) zero d h lt = h.0
  all-at (x ∷ xs) (suc i) d h lt = all-at xs i d h.1 (omega arith)

module _ {A : Type 0} (number : A → ℕ) where
  pub above-at : (m : ℕ) (xs : List A) (i : ℕ) (d : A) → AllByRecursion (λ y. m < number y) xs → i < length xs → m < number (get_or xs i d)
  above-at m xs i d h lt = all-at (λ y. m < number y) (λ y. m < number y) (λ y k. k) xs i d h lt

  -- one above another has another number
  pub none-above : (n : ℕ) (xs : List A) → AllByRecursion (λ y. n < number y) xs → HasNone number n xs
  none-above n xs h = all-weaker (λ y. n < number y) (λ y. (n == number y) ≡ false) (λ y k. unequal-above n (number y) k) xs h

  -- ---- where none has the number
  pub none-changed : (n : ℕ) (change : A → A) (xs : List A) → HasNone number n xs → map (λ x. if n == number x then change x else x) xs ≡ xs
  none-changed n change [] h = refl
  none-changed n change (x ∷ xs) h = let here = h.0 in rw here (ap (λ ys. x ∷ ys) (none-changed n change xs h.1))

  pub none-found : (n : ℕ) (xs : List A) → HasNone number n xs → first_where (λ x. n == number x) xs ≡ None
  none-found n [] h = refl
  none-found n (x ∷ xs) h = let here = h.0 in rw here (none-found n xs h.1)

  pub none-dropped : (n : ℕ) (xs : List A) → HasNone number n xs → filter (λ x. not (n == number x)) xs ≡ xs
  none-dropped n [] h = refl
  none-dropped n (x ∷ xs) h = let here = h.0 in rw here (ap (λ ys. x ∷ ys) (none-dropped n xs h.1))

  -- ---- where one at a place has it
  pub place-changed : (n : ℕ) (change : A → A) (xs : List A) (i : ℕ) (d : A) → IsRising number xs → i < length xs → number (get_or xs i d) ≡ n
      → map (λ x. if n == number x then change x else x) xs ≡ set xs i (change (get_or xs i d))
  place-changed n change [] i d rising lt is = absurd (omega arith)
  place-changed n change (x ∷ xs) zero d rising lt is =
      let here = equal n (number x) is in
      let none = none-above (number x) xs rising.0 in
      rw here (ap (λ ys. change x ∷ ys) (ap (λ (m : ℕ). map (λ y. if m == number y then change y else y) xs) (sym is) ∙ none-changed (number x) change xs none))
  place-changed n change (x ∷ xs) (suc i) d rising lt is =
      let below = above-at (number x) xs i d rising.0 (omega arith) in
      let here = unequal n (number x) (omega (arith, below, is)) in
      rw here (ap (λ ys. x ∷ ys) (place-changed n change xs i d rising.1 (omega arith) is))

  pub place-found : (n : ℕ) (xs : List A) (i : ℕ) (d : A) → IsRising number xs → i < length xs → number (get_or xs i d) ≡ n
      → first_where (λ x. n == number x) xs ≡ Some (get_or xs i d)
  place-found n [] i d rising lt is = absurd (omega arith)
  place-found n (x ∷ xs) zero d rising lt is = let here = equal n (number x) is in rw here refl
  place-found n (x ∷ xs) (suc i) d rising lt is =
      let below = above-at (number x) xs i d rising.0 (omega arith) in
      let here = unequal n (number x) (omega (arith, below, is)) in
      rw here (place-found n xs i d rising.1 (omega arith) is)

  pub place-dropped : (n : ℕ) (xs : List A) (i : ℕ) (d : A) → IsRising number xs → i < length xs → number (get_or xs i d) ≡ n
      → filter (λ x. not (n == number x)) xs ≡ remove xs i
  place-dropped n [] i d rising lt is = absurd (omega arith)
  place-dropped n (x ∷ xs) zero d rising lt is =
      let here = equal n (number x) is in
      let none = none-above (number x) xs rising.0 in
      rw here (ap (λ (m : ℕ). filter (λ y. not (m == number y)) xs) (sym is) ∙ none-dropped (number x) xs none)
  place-dropped n (x ∷ xs) (suc i) d rising lt is =
      let below = above-at (number x) xs i d rising.0 (omega arith) in
      let here = unequal n (number x) (omega (arith, below, is)) in
      rw here (ap (λ ys. x ∷ ys) (place-dropped n xs i d rising.1 (omega arith) is))

  -- ---- what a search by halves answers
  rises : (xs : List A) (i : ℕ) (d : A) → IsRising number xs → suc i < length xs → number (get_or xs i d) < number (get_or xs (suc i) d)
  rises [] i d h lt = absurd (omega arith)
  rises (x ∷ xs) zero d h lt = above-at (number x) xs 0 d h.0 (omega arith)
  rises (x ∷ xs) (suc i) d h lt = rises xs i d h.1 (omega arith)

  pub searched-place : (n : ℕ) (xs : List A) (i : ℕ) → IsSearchInRange (Ok i) (length xs) → IsBinarySearchResult (λ x. nat_cmp (number x) n) xs (Ok i) → IsPlace number n xs i
  searched-place n xs i bound at = record { within = bound; there = λ x. tied (number (get_or xs i x)) n (at x) }

  pub searched-none : (n : ℕ) (xs : List A) (i : ℕ) → IsRising number xs → IsBinarySearchResult (λ x. nat_cmp (number x) n) xs (Err i) → HasNone number n xs
  searched-none n xs i rising at =
      let parted = at (searchable_from_sorted nat_cmp_total number xs n (λ k d _ lt. rw add-one (not-less (number (get_or xs k d)) (number (get_or xs (suc k) d)) (rises xs k d rising (omega arith))))) in
      recursion_from_All (λ x. (n == number x) ≡ false) xs (λ k d lt. below-or-not k i
      (λ below. apart-below (number (get_or xs k d)) n (parted.0 k d (omega arith) below))
      (λ above. apart-above (number (get_or xs k d)) n (parted.1 k d above lt)))

  -- ---- what keeps numbers rising
  pub changed-above : (n m : ℕ) (change : A → A) → ((x : A) → number (change x) ≡ number x) → (xs : List A)
      → AllByRecursion (λ y. m < number y) xs → AllByRecursion (λ y. m < number y) (map (λ x. if n == number x then change x else x) xs)
  changed-above n m change kept [] h = tt
  changed-above n m change kept (x ∷ xs) h = (by_number (n == number x), changed-above n m change kept xs h.1)
    where
      by_number : (b : Bool) → m < number (if b then change x else x)
      by_number true = let same = kept x in omega (arith, same, h.0)
      by_number false = h.0

  pub changed-rising : (n : ℕ) (change : A → A) → ((x : A) → number (change x) ≡ number x) → (xs : List A) → IsRising number xs → IsRising number (map (λ x. if n == number x then change x else x) xs)
  changed-rising n change kept [] h = tt
  changed-rising n change kept (x ∷ xs) h = (
    subst (λ (m : ℕ). AllByRecursion (λ y. m < number y) (map (λ z. if n == number z then change z else z) xs)) (by_number (n == number x)) (changed-above n (number x) change kept xs h.0),
    changed-rising n change kept xs h.1,
  )
    where
      by_number : (b : Bool) → number x ≡ number (if b then change x else x)
      by_number true = sym (kept x)
      by_number false = refl

  pub changed-up-to : (n m : ℕ) (change : A → A) → ((x : A) → number (change x) ≡ number x) → (xs : List A)
      → AreUpTo number m xs → AreUpTo number m (map (λ x. if n == number x then change x else x) xs)
  changed-up-to n m change kept [] h = tt
  changed-up-to n m change kept (x ∷ xs) h = (by_number (n == number x), changed-up-to n m change kept xs h.1)
    where
      by_number : (b : Bool) → number (if b then change x else x) ≤ m
      by_number true = let same = kept x in omega (arith, same, h.0)
      by_number false = h.0

  pub filtered-all : (P : A → Type 0) (p : A → Bool) (xs : List A) → AllByRecursion P xs → AllByRecursion P (filter p xs)
  filtered-all P p [] h = tt
  filtered-all P p (x ∷ xs) h = by_test (p x) (λ t. rw t (h.0, filtered-all P p xs h.1)) (λ t. rw t (filtered-all P p xs h.1))

  pub filtered-rising : (p : A → Bool) (xs : List A) → IsRising number xs → IsRising number (filter p xs)
  filtered-rising p [] h = tt
  filtered-rising p (x ∷ xs) h =
      by_test (p x)
      (λ t. rw t (filtered-all (λ y. number x < number y) p xs h.0, filtered-rising p xs h.1))
      (λ t. rw t (filtered-rising p xs h.1))

  -- one more behind, above all
  pub pushed-rising : (m : ℕ) (xs : List A) (y : A) → AreUpTo number m xs → m < number y → IsRising number xs → IsRising number (xs ++ y ∷ [])
  pushed-rising m [] y up above h = (tt, tt)
  pushed-rising m (x ∷ xs) y up above h = (pushed-above xs h.0, pushed-rising m xs y up.1 above h.1)
    where
      pushed-above : (ys : List A) → AllByRecursion (λ z. number x < number z) ys → AllByRecursion (λ z. number x < number z) (ys ++ y ∷ [])
      pushed-above [] k = (omega (arith, up.0, above), tt)
      pushed-above (z ∷ ys) k = (k.0, pushed-above ys k.1)

  pub pushed-up-to : (m : ℕ) (xs : List A) (y : A) → AreUpTo number m xs → number y ≡ m + 1 → AreUpTo number (m + 1) (xs ++ y ∷ [])
  pushed-up-to m [] y up is = (omega (arith, is), tt)
  pushed-up-to m (x ∷ xs) y up is = (omega (arith, up.0), pushed-up-to m xs y up.1 is)
