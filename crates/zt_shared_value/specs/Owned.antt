-- What a pass has entered in a journal, and sums over numbers that are drawn one after another.
use Rattle.std.specs.Prelude.{ℕ, zero, suc, ◌+◌, ◌==◌, Bool, true, false, List, [], ◌∷◌}

-- the sum of f over the numbers below n
abbrev pub below : (ℕ → ℕ) → ℕ → ℕ
below f zero = 0
below f (suc n) = below f n + f n

-- one entry more in front, where it is one of the pass
abbrev pub with_owned : {E : Type 0} → Bool → ℕ × E → List (ℕ × E) → List (ℕ × E)
with_owned true entry entries = entry ∷ entries
with_owned false entry entries = entries

module _ {E : Type 0} (author : E → ℕ) where
  -- the entries of the pass with their places, the first of which is `place`
  abbrev pub owned_from : ℕ → ℕ → List E → List (ℕ × E)
  owned_from place number [] = []
  owned_from place number (entry ∷ journal) =
      with_owned (author entry == number) (place, entry) (owned_from (place + 1) number journal)

  -- the entries of the pass in a journal, each with its place, oldest first
  abbrev pub owned : ℕ → List E → List (ℕ × E)
  owned number journal = owned_from 0 number journal
