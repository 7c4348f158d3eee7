-- Things that have numbers, each number above those before it.
--     IsRising number xs        their numbers rise
--     HasNone number n xs       none has the number n
--     AreBelow number n xs      each number is below n
--     IsPlace number n xs i     the one at the place i has the number n
use Rattle.std.specs.Prelude.{◌≡◌, ℕ, ◌<◌, ◌≤◌, ◌==◌, false, List, [], ◌∷◌, length, get_or}
use Rattle.std.specs.List.{AllByRecursion}

module _ {A : Type 0} (number : A → ℕ) where
  abbrev pub IsRising : List A → Type 0
  IsRising [] = Unit {0}
  IsRising (x ∷ xs) = AllByRecursion (λ y. number x < number y) xs × IsRising xs

  abbrev pub HasNone : ℕ → List A → Type 0
  HasNone n xs = AllByRecursion (λ x. (n == number x) ≡ false) xs

  pub record IsPlace (n : ℕ) (xs : List A) (i : ℕ) : Type 0 where
    pub within : i < length xs
    pub there : (x : A) → number (get_or xs i x) ≡ n

  -- each number is below n
  abbrev pub AreBelow : ℕ → List A → Type 0
  AreBelow n xs = AllByRecursion (λ x. number x < n) xs

  -- no number is above m
  abbrev pub AreUpTo : ℕ → List A → Type 0
  AreUpTo m xs = AllByRecursion (λ x. number x ≤ m) xs
