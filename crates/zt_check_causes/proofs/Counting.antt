-- A sum over the members so far, and the next one.
use Rattle.std.proofs.Common.{◌≡◌, ℕ, suc, ◌+◌, ◌<◌, List, [], ◌∷◌, ◌++◌, length, sum_by, take, get_or, refl, ap, subst, sym, ◌∙◌, arith}
use Rattle.std.proofs.Math.Seq.{take-suc}
use Rattle.std.proofs.lemmas.List.Sums.{sum_by-append, sum_by-cons}

pub sum_more : {A : Type 0} (g : A → ℕ) (xs : List A) (i : ℕ) (x : A) (total n : ℕ) → i < length xs → x ≡ get_or xs i x → n ≡ g x → total ≡ sum_by g (take i xs) → total + n ≡ sum_by g (take (i + 1) xs)
sum_more g xs i x total n within is n_is so_far =
    let next : suc i ≡ i + 1 = omega arith in
    let all : take (i + 1) xs ≡ take i xs ++ x ∷ [] =
    subst (λ k. take k xs ≡ take i xs ++ x ∷ []) next (take-suc xs i x within ∙ ap (λ (y : _). take i xs ++ y ∷ []) (sym is)) in
    let none : sum_by g [] ≡ 0 = refl in
    omega (arith, so_far, n_is, ap (sum_by g) all, sum_by-append g (take i xs) (x ∷ []), sum_by-cons g x [], none)
