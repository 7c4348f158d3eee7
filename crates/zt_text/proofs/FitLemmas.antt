-- Numbers within their types, message for message.
use Rattle.std.proofs.Common.{◌≡◌, ℕ, zero, suc, ◌+◌, ◌<◌, ◌≤◌, List, [], ◌∷◌, length, take, get_or, subst, arith, add-one}
use Rattle.std.specs.List.{AllByRecursion}

module _ {A : Type 0} (F : A → Type 0) where
  all-take : (xs : List A) (i : ℕ) (x : A) → i < length xs → x ≡ get_or xs i x → AllByRecursion F (take i xs) → F x → AllByRecursion F (take (suc i) xs)
  all-take [] i x inside is all one = absurd (omega arith)
  all-take (y ∷ ys) zero x inside is all one = (subst F is one, tt)
  all-take (y ∷ ys) (suc i) x inside is all one = (all.0, all-take ys i x (omega arith) is all.1 one)

  -- one more of them
  pub all-next : (xs : List A) (i : ℕ) (x : A) → i < length xs → x ≡ get_or xs i x → AllByRecursion F (take i xs) → F x → AllByRecursion F (take (i + 1) xs)
  all-next xs i x inside is all one = rw add-one (all-take xs i x inside is all one)

  -- all of them
  pub all-whole : (xs : List A) (n : ℕ) → length xs ≤ n → AllByRecursion F (take n xs) → AllByRecursion F xs
  all-whole [] n le all = tt
  all-whole (x ∷ xs) zero le all = absurd (omega arith)
  all-whole (x ∷ xs) (suc n) le all = (all.0, all-whole xs n (omega arith) all.1)
