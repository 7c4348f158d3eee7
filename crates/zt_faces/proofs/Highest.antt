-- What keeps a number that none of the things in a list is above.
use Rattle.std.proofs.Common.{◌≡◌, ℕ, ◌≤◌, ◌==◌, max, Bool, true, false, if◌then◌else◌, List, [], ◌∷◌, ◌++◌, arith, map}
use Rattle.zt_faces.specs.Rising.{AreUpTo}

module _ {A : Type 0} (number : A → ℕ) where
  -- one more behind
  pub up-to-pushed : (m : ℕ) (xs : List A) (y : A) → AreUpTo number m xs → AreUpTo number (max m (number y)) (xs ++ y ∷ [])
  up-to-pushed m [] y up = (omega arith, tt)
  up-to-pushed m (x ∷ xs) y up = (omega (arith, up.0), up-to-pushed m xs y up.1)

  -- changes that keep the number, of those that have another one
  pub up-to-changed : (key : A → ℕ) (n m : ℕ) (change : A → A) → ((x : A) → number (change x) ≡ number x) → (xs : List A)
      → AreUpTo number m xs → AreUpTo number m (map (λ x. if n == key x then change x else x) xs)
  up-to-changed key n m change kept [] up = tt
  up-to-changed key n m change kept (x ∷ xs) up = (by_key (n == key x), up-to-changed key n m change kept xs up.1)
    where
      by_key : (b : Bool) → number (if b then change x else x) ≤ m
      by_key true = let same = kept x in omega (arith, same, up.0)
      by_key false = up.0
