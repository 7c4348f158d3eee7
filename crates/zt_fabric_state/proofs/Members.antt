-- Members by their numbers from 1, and by their places.
use Rattle.std.proofs.Common.{◌≡◌, ℕ, zero, suc, ◌+◌, ◌-◌, ◌<◌, ◌==◌, false, List, [], ◌∷◌, length, get_or, Some, None, refl, ap, sym, ◌∙◌, arith, ne_eqb}
use Rattle.zt_model.specs.Lists.{nth}

pub nth_at : {A : Type 0} (place : ℕ) (xs : List A) (d : A) → place < length xs → nth (place + 1) xs ≡ Some (get_or xs place d)
nth_at place [] d lt = absurd (omega arith)
nth_at zero (x ∷ xs) d lt = refl
nth_at (suc place) (x ∷ xs) d lt =
    let apart : (suc place + 1 == 1) ≡ false = ne_eqb (suc place + 1) 1 (omega arith) in
    let less : suc place + 1 - 1 ≡ place + 1 = omega arith in
    rw (apart, less) (nth_at place xs d (omega arith))

pub nth_zero : {A : Type 0} (xs : List A) → nth 0 xs ≡ None
nth_zero [] = refl
nth_zero (x ∷ xs) = nth_zero xs

pub nth_beyond : {A : Type 0} (n : ℕ) (xs : List A) → length xs < n → nth n xs ≡ None
nth_beyond n [] lt = refl
nth_beyond n (x ∷ xs) lt = rw (ne_eqb n 1 (omega arith)) (nth_beyond (n - 1) xs (omega arith))

-- the member at a place has the number above it
pub member_there : {A : Type 0} (n at : ℕ) (xs ys : List A) (x : A) → n ≡ at + 1 → ys ≡ xs → at < length xs → x ≡ get_or ys at x → nth n xs ≡ Some x
member_there n at xs ys x counted ys_is lt is =
    let item : x ≡ get_or xs at x = is ∙ ap (λ zs. get_or zs at x) ys_is in
    ap (λ k. nth k xs) counted ∙ nth_at at xs x lt ∙ ap (λ y. Some y) (sym item)

pub member_is : {A : Type 0} (n at : ℕ) (xs ys : List A) (x y : A) → n ≡ at + 1 → ys ≡ xs → at < length xs → x ≡ get_or ys at x → nth n xs ≡ Some y → x ≡ y
member_is n at xs ys x y counted ys_is lt is other =
    let e : Some x ≡ Some y = sym (member_there n at xs ys x counted ys_is lt is) ∙ other in
    cc

pub some_member : {A : Type 0} (n at : ℕ) (xs : List A) → n ≡ at + 1 → at < length xs → (x : A) × (nth n xs ≡ Some x)
some_member n at [] counted lt = absurd (omega arith)
some_member n at (x ∷ xs) counted lt = (get_or (x ∷ xs) at x, ap (λ k. nth k (x ∷ xs)) counted ∙ nth_at at (x ∷ xs) x lt)
