-- Members by their numbers from 1, and by their places.
use Rattle.std.proofs.Common.{◌≡◌, ℕ, zero, suc, ◌+◌, ◌-◌, ◌<◌, ◌==◌, false, List, [], ◌∷◌, length, get_or, set, None, Some, refl, ap, arith, ne_eqb, sym, ◌∙◌}
use Rattle.zt_keys.specs.Test.{by_test}
use Rattle.zt_model.specs.Lists.{nth}
use Rattle.zt_model.specs.Places.{at_nth}

pub nth_at : {A : Type 0} (place : ℕ) (xs : List A) (d : A) → place < length xs → nth (place + 1) xs ≡ Some (get_or xs place d)
nth_at place [] d lt = absurd (omega arith)
nth_at zero (x ∷ xs) d lt = refl
nth_at (suc place) (x ∷ xs) d lt =
    let apart : (suc place + 1 == 1) ≡ false = ne_eqb (suc place + 1) 1 (omega arith) in
    let less : suc place + 1 - 1 ≡ place + 1 = omega arith in
    rw (apart, less) (nth_at place xs d (omega arith))

pub nth_zero : {A : Type 0} (xs : List A) → nth 0 xs ≡ None
nth_zero [] = refl
nth_zero (x ∷ xs) = nth_zero xs

pub nth_beyond : {A : Type 0} (n : ℕ) (xs : List A) → length xs < n → nth n xs ≡ None
nth_beyond n [] lt = refl
nth_beyond n (x ∷ xs) lt = rw (ne_eqb n 1 (omega arith)) (nth_beyond (n - 1) xs (omega arith))

-- ---- a member that is changed

-- no member has the number
pub at_nth_none : {A : Type 0} (n : ℕ) (change : A → A) (xs : List A) → nth n xs ≡ None → at_nth n change xs ≡ xs
at_nth_none n change [] none = refl
at_nth_none n change (x ∷ xs) none =
    by_test (n == 1)
    (λ here. let e : Some x ≡ None = rw here at none in cc)
    (λ here. rw here (ap (λ rest. x ∷ rest) (at_nth_none (n - 1) change xs (rw here at none))))

pub at_nth_zero : {A : Type 0} (change : A → A) (xs : List A) → at_nth 0 change xs ≡ xs
at_nth_zero change xs = at_nth_none 0 change xs (nth_zero xs)

at_place : {A : Type 0} (place : ℕ) (change : A → A) (xs : List A) (x y : A) → place < length xs → x ≡ get_or xs place x → y ≡ change x → set xs place y ≡ at_nth (place + 1) change xs
at_place place change [] x y lt is changed = absurd (omega arith)
at_place zero change (z ∷ xs) x y lt is changed = ap (λ w. w ∷ xs) (changed ∙ ap change is)
at_place (suc place) change (z ∷ xs) x y lt is changed =
    let apart : (suc place + 1 == 1) ≡ false = ne_eqb (suc place + 1) 1 (omega arith) in
    let less : suc place + 1 - 1 ≡ place + 1 = omega arith in
    rw (apart, less) (ap (λ ws. z ∷ ws) (at_place place change xs x y (omega arith) is changed))

-- the member at a place is changed, by its number
pub changed_there : {A : Type 0} (n place : ℕ) (change : A → A) (xs ys : List A) (x y : A) → n ≡ place + 1 → ys ≡ xs → place < length ys → x ≡ get_or xs place x → y ≡ change x → set xs place y ≡ at_nth n change xs
changed_there n place change xs ys x y counted same within is changed =
    let inside : place < length xs = rw same at within in
    at_place place change xs x y inside is changed ∙ ap (λ k. at_nth k change xs) (sym counted)

-- changes that agree everywhere
pub at_nth_same : {A : Type 0} (n : ℕ) (one two : A → A) (xs : List A) → ((x : A) → one x ≡ two x) → at_nth n one xs ≡ at_nth n two xs
at_nth_same n one two [] same = refl
at_nth_same n one two (x ∷ xs) same =
    by_test (n == 1)
    (λ here. rw here (ap (λ y. y ∷ xs) (same x)))
    (λ here. rw here (ap (λ rest. x ∷ rest) (at_nth_same (n - 1) one two xs same)))
