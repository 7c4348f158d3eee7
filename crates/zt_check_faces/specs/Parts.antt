-- Parts of lists that have all members of a number. Whoever asks for these looks through such a part in place of the
-- whole list.
use Rattle.std.specs.Prelude.{◌≡◌, ℕ, ◌==◌, List, filter}

module _ {X : Type 0} (number : X → ℕ) where
  -- the members of a number
  abbrev pub those_of : ℕ → List X → List X
  those_of n xs = filter (λ x. n == number x) xs

  -- a part has those of the number that a list has, in the same order
  abbrev pub HasThoseOf : ℕ → List X → List X → Type 0
  HasThoseOf n part xs = those_of n part ≡ those_of n xs
