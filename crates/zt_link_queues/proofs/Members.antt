-- Members of lists at their places.
use Rattle.std.proofs.Common.{◌≡◌, ℕ, zero, suc, ◌+◌, ◌-◌, ◌<◌, ◌==◌, false, List, [], ◌∷◌, length, get_or, set, ap, ◌∙◌, arith, ne_eqb}
use Rattle.zt_model.specs.Places.{at_nth}

-- a member written at its place is the member of its number changed
pub set_at : {A : Type 0} (change : A → A) (place : ℕ) (xs : List A) (x y : A) → place < length xs → x ≡ get_or xs place x → y ≡ change x → set xs place y ≡ at_nth (place + 1) change xs
set_at change place [] x y lt at_ is = absurd (omega arith)
set_at change zero (z ∷ xs) x y lt at_ is = ap (λ b. b ∷ xs) (is ∙ ap change at_)
set_at change (suc place) (z ∷ xs) x y lt at_ is =
    let apart : (suc place + 1 == 1) ≡ false = ne_eqb (suc place + 1) 1 (omega arith) in
    let less : suc place + 1 - 1 ≡ place + 1 = omega arith in
    rw (apart, less) (ap (λ rest. z ∷ rest) (set_at change place xs x y (omega arith) at_ is))
