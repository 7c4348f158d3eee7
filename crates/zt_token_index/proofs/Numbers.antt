-- The numbers of the faces that pass a test, and what an ordered list of numbers is.
use Rattle.std.proofs.Common.{◌≡◌, ℕ, ◌==◌, Bool, true, false, ◌&&◌, ◌||◌, List, [], ◌∷◌, Option, Some, None, ap, arith, filter, flat_map, map, refl, subst, sym, ◌∙◌}
use Rattle.std.proofs.lemmas.Bool.Decides.{nat_tests}
use Rattle.std.proofs.lemmas.List.Folds.{list_any-append}
use Rattle.std.specs.List.{AllByRecursion, list_any}
use Rattle.std.specs.List.Sorted.{IsStrictlySortedBy}
use Rattle.std.specs.Ordering.{is_eq, nat_cmp}
use Rattle.std.specs.declared.cmp.Ordering.{Ordering}
use Rattle.std.specs.declared.cmp.Ordering.TheVariants.{Less, Equal, Greater}
use Rattle.zt_keys.specs.Test.{by_test}
use Rattle.zt_region.specs.Region.{is_north}
use Rattle.zt_protocol.specs.Interest.{has_tokens}
use Rattle.zt_interest_index.specs.Holdings.{asks_from, is_about}
use Rattle.zt_model.specs.Rows.{ById, Face, InterestRow}
use Rattle.zt_model.specs.Wants as model
use Rattle.zt_model.specs.Wants.{wants}
use Rattle.zt_token_index.specs.Seekers.{in_tokens, may_seek, rows_of, token_rows}
use Rattle.zt_token_index.proofs.Held.{any_rows}

by_ordering : {G : Type 0} (r : Ordering) → (r ≡ Less → G) → (r ≡ Equal → G) → (r ≡ Greater → G) → G
by_ordering Less less equal greater = less refl
by_ordering Equal less equal greater = equal refl
by_ordering Greater less equal greater = greater refl

-- ---- ordered numbers
abbrev pub is_in : ℕ → List ℕ → Bool
is_in n xs = list_any (λ m. is_eq (nat_cmp n m)) xs

same-Equal : (x y : ℕ) → nat_cmp x y ≡ Equal → x ≡ y
same-Equal x y h = grind (arith, nat_tests)

turned-Greater : (x y : ℕ) → nat_cmp x y ≡ Greater → nat_cmp y x ≡ Less
turned-Greater x y h = grind (arith, nat_tests)

tied-self : (n : ℕ) → is_eq (nat_cmp n n) ≡ true
tied-self n = grind (arith, nat_tests)

tied-same : (n x : ℕ) → is_eq (nat_cmp n x) ≡ true → n ≡ x
tied-same n x h = grind (arith, nat_tests)

below-tied : (n x y : ℕ) → nat_cmp n x ≡ Less → nat_cmp x y ≡ Less → is_eq (nat_cmp n y) ≡ false
below-tied n x y h k = grind (arith, nat_tests)

below-apart : (n x : ℕ) → nat_cmp n x ≡ Less → is_eq (nat_cmp n x) ≡ false
below-apart n x h = grind (arith, nat_tests)

tied-test : (n m : ℕ) → is_eq (nat_cmp n m) ≡ (n == m)
tied-test n m = grind (arith, nat_tests)

pub in_tests : (n : ℕ) (xs : List ℕ) → list_any (λ m. n == m) xs ≡ is_in n xs
in_tests n [] = refl
in_tests n (x ∷ xs) = λ i. sym (tied-test n x) i || in_tests n xs i

not_in_above : (n : ℕ) (xs : List ℕ) → AllByRecursion (λ x. nat_cmp n x ≡ Less) xs → is_in n xs ≡ false
not_in_above n [] h = refl
not_in_above n (x ∷ xs) h = let here = below-apart n x h.0 in rw here (not_in_above n xs h.1)

not_in_below : (n x : ℕ) (xs : List ℕ) → nat_cmp n x ≡ Less → AllByRecursion (λ y. nat_cmp x y ≡ Less) xs → is_in n xs ≡ false
not_in_below n x [] below h = refl
not_in_below n x (y ∷ ys) below h = let here = below-tied n x y below h.0 in rw here (not_in_below n x ys below h.1)

-- lists in order with the same members are the same
pub sorted_same : (xs ys : List ℕ) → IsStrictlySortedBy nat_cmp xs → IsStrictlySortedBy nat_cmp ys → ((n : ℕ) → is_in n xs ≡ is_in n ys) → xs ≡ ys
unfolding IsStrictlySortedBy
sorted_same [] [] a b same = refl
sorted_same [] (y ∷ ys) a b same = let self = tied-self y in cc (rw self at (same y))
sorted_same (x ∷ xs) [] a b same = let self = tied-self x in cc (rw self at (same x))
sorted_same (x ∷ xs) (y ∷ ys) a b same =
    by_ordering (nat_cmp x y)
    (λ h.
    let self = tied-self x in
    let first = below-apart x y h in
    let others = not_in_below x y ys h b.0 in
    cc (rw (self, first, others) at (same x)))
    (λ h.
    let one = same-Equal x y h in
    λ i. one i ∷ sorted_same xs ys a.1 b.1 (rest one) i)
    (λ h.
    let k = turned-Greater x y h in
    let self = tied-self y in
    let first = below-apart y x k in
    let others = not_in_below y x xs k a.0 in
    cc (rw (self, first, others) at (same y)))
  where
    rest : x ≡ y → (n : ℕ) → is_in n xs ≡ is_in n ys
    rest one n =
        by_test (is_eq (nat_cmp n x))
        (λ t.
        let is = tied-same n x t in
        let left = subst (λ m. is_in m xs ≡ false) (sym is) (not_in_above x xs a.0) in
        let right = subst (λ m. is_in m ys ≡ false) (sym (is ∙ one)) (not_in_above y ys b.0) in
        left ∙ sym right)
        (λ t.
        let u : is_eq (nat_cmp n y) ≡ false = ap (λ m. is_eq (nat_cmp n m)) (sym one) ∙ t in
        rw (t, u) at (same n))

-- ---- numbers of things that have them
module _ {A : Type 0} (number : A → ℕ) where
  chosen_above : (n : ℕ) (p : A → Bool) (xs : List A) → AllByRecursion (λ m. nat_cmp n m ≡ Less) (map number xs) → AllByRecursion (λ m. nat_cmp n m ≡ Less) (map number (filter p xs))
  chosen_above n p [] h = tt
  chosen_above n p (x ∷ xs) h = by_test (p x) (λ t. rw t (h.0, chosen_above n p xs h.1)) (λ t. rw t (chosen_above n p xs h.1))

  -- those of some stand in order too
  pub chosen_sorted : (p : A → Bool) (xs : List A) → IsStrictlySortedBy nat_cmp (map number xs) → IsStrictlySortedBy nat_cmp (map number (filter p xs))
  unfolding IsStrictlySortedBy
  chosen_sorted p [] h = tt
  chosen_sorted p (x ∷ xs) h = by_test (p x) (λ t. rw t (chosen_above (number x) p xs h.0, chosen_sorted p xs h.1)) (λ t. rw t (chosen_sorted p xs h.1))

  pub chosen_in : (n : ℕ) (p : A → Bool) (xs : List A) → is_in n (map number (filter p xs)) ≡ list_any (λ x. (n == number x) && p x) xs
  chosen_in n p [] = refl
  chosen_in n p (x ∷ xs) =
      let rest = chosen_in n p xs in
      by_test (p x)
      (λ t. rw t (λ i. (tied-test n (number x) ∙ and_true (n == number x)) i || rest i))
      (λ t. rw t (rest ∙ ap (λ b. b || list_any (λ y. (n == number y) && p y) xs) (and_false (n == number x))))
    where
      and_true : (b : Bool) → b ≡ (b && true)
      and_true true = refl
      and_true false = refl

      and_false : (b : Bool) → false ≡ (b && false)
      and_false true = refl
      and_false false = refl

-- ---- the faces that may be told of a token
module _ {K : Type 0} (matching : K → K → Bool) (e : K) where
  about_same : (about : Option K) → is_about matching about e ≡ model.is_about matching about e
  about_same None = refl
  about_same (Some k) = refl

  held_asks : (n m : ℕ) (held : ById (InterestRow K)) → list_any (asks_from matching e n) (rows_of in_tokens m held) ≡ ((n == m) && list_any (λ row. model.asks_token matching row.1 e) held)
  held_asks n m held = any_rows in_tokens (asks_from matching e n) m held ∙ each held
    where
      turned : (t a b c : Bool) → ((a && (t && b)) || (t && c)) ≡ (t && ((a && b) || c))
      turned true a b c = refl
      turned false true b c = refl
      turned false false b c = refl

      and_false : (b : Bool) → false ≡ (b && false)
      and_false true = refl
      and_false false = refl

      each : (rows : ById (InterestRow K)) → list_any (λ row. has_tokens row.1.options && ((n == m) && is_about matching row.1.expr e)) rows ≡ ((n == m) && list_any (λ row. model.asks_token matching row.1 e) rows)
      each [] = and_false (n == m)
      each (row ∷ rows) =
          (λ i. (has_tokens row.1.options && ((n == m) && about_same row.1.expr i)) || each rows i)
          ∙ turned (n == m) (has_tokens row.1.options) (model.is_about matching row.1.expr e) (list_any (λ r. model.asks_token matching r.1 e) rows)

  pub seeks_any : (n : ℕ) (fs : List (Face K))
      → (list_any (λ f. (n == f.number) && is_north f.region) fs || list_any (asks_from matching e n) (flat_map token_rows fs)) ≡ list_any (λ f. (n == f.number) && may_seek matching f e) fs
  unfolding wants
  seeks_any n [] = refl
  seeks_any n (f ∷ fs) =
      let here = held_asks n f.number f.held in
      let wanted = list_any (λ row. model.asks_token matching row.1 e) f.held in
      let north = list_any (λ (x : Face K). (n == x.number) && is_north x.region) fs in
      ap (λ b. (((n == f.number) && is_north f.region) || north) || b) (list_any-append (asks_from matching e n) (token_rows f) (flat_map token_rows fs))
      ∙ ap (λ b. (((n == f.number) && is_north f.region) || north) || (b || list_any (asks_from matching e n) (flat_map token_rows fs))) here
      ∙ both (n == f.number) (is_north f.region) wanted north (list_any (asks_from matching e n) (flat_map token_rows fs))
      ∙ ap (λ b. ((n == f.number) && (is_north f.region || wanted)) || b) (seeks_any n fs)
    where
      both : (t a b c d : Bool) → (((t && a) || c) || ((t && b) || d)) ≡ ((t && (a || b)) || (c || d))
      both true true b c d = refl
      both true false true true d = refl
      both true false true false d = refl
      both true false false c d = refl
      both false a b c d = refl
