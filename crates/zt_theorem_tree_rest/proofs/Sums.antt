-- Sums over lists.
use Rattle.std.proofs.Common.{◌≡◌, ℕ, ◌+◌, ◌*◌, ◌≤◌, Bool, List, [], ◌∷◌, ◌++◌, length, map, filter, refl, ap, ◌∙◌, arith}
use Rattle.std.specs.List.{sum_by}
use Rattle.std.proofs.lemmas.List.Sums.{sum_by-cons}
use Rattle.zt_model.specs.Transcript.{Each}
use Rattle.zt_laws.proofs.Lists.{of_cond}

abbrev pub total : {A : Type 0} → (A → ℕ) → List A → ℕ
total w [] = 0
total w (x ∷ xs) = w x + total w xs

pub total_is : {A : Type 0} (w : A → ℕ) (xs : List A) → sum_by w xs ≡ total w xs
total_is w [] = refl
total_is w (x ∷ xs) = sum_by-cons w x xs ∙ ap (λ n. w x + n) (total_is w xs)

pub total-append : {A : Type 0} (w : A → ℕ) (xs ys : List A) → total w (xs ++ ys) ≡ total w xs + total w ys
total-append w [] ys = omega arith
total-append w (x ∷ xs) ys = let rest = total-append w xs ys in omega arith

pub total-map : {A B : Type 0} (w : B → ℕ) (f : A → B) (xs : List A) → total w (map f xs) ≡ total (λ x. w (f x)) xs
total-map w f [] = refl
total-map w f (x ∷ xs) = ap (λ n. w (f x) + n) (total-map w f xs)

pub total_alike : {A : Type 0} (u w : A → ℕ) (xs : List A) → Each (λ x. u x ≡ w x) xs → total u xs ≡ total w xs
total_alike u w [] all = refl
total_alike u w (x ∷ xs) all = let first : u x ≡ w x = all.0 in let rest = total_alike u w xs all.1 in omega arith

pub total_less : {A : Type 0} (u w : A → ℕ) (xs : List A) → Each (λ x. u x ≤ w x) xs → total u xs ≤ total w xs
total_less u w [] all = omega arith
total_less u w (x ∷ xs) all = let first : u x ≤ w x = all.0 in let rest = total_less u w xs all.1 in omega arith

pub total_sum : {A : Type 0} (u w : A → ℕ) (xs : List A) → total (λ x. u x + w x) xs ≡ total u xs + total w xs
total_sum u w [] = omega arith
total_sum u w (x ∷ xs) = let rest = total_sum u w xs in omega arith

pub total_filter : {A : Type 0} (w : A → ℕ) (p : A → Bool) (xs : List A) → total w (filter p xs) ≤ total w xs
total_filter w p [] = omega arith
total_filter {A} w p (x ∷ xs) =
    let rest = total_filter w p xs in
    of_cond (λ (ys : List A). total w ys ≤ total w (x ∷ xs)) (p x) (x ∷ filter p xs) (filter p xs) (λ _. omega arith) (λ _. omega arith)

pub total_none : {A : Type 0} (xs : List A) → total (λ _. 0) xs ≡ 0
total_none [] = refl
total_none (x ∷ xs) = let rest = total_none xs in omega arith

-- the same for each member
abbrev pub times : {A : Type 0} → ℕ → List A → ℕ
times n xs = total (λ _. n) xs

pub times_is : {A : Type 0} (n : ℕ) (xs : List A) → length xs * n ≡ times n xs
times_is n [] = omega arith
times_is n (x ∷ xs) = let rest = times_is n xs in omega arith
