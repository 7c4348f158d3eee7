-- What rows that pass a test give, each one thing.
use Rattle.std.specs.Prelude.{Bool, if◌then◌else◌, List, [], ◌∷◌, filter, map}

-- what one row gives
abbrev pub chosen : {A B : Type 0} → (A → Bool) → (A → B) → A → List B
chosen p give x = if p x then give x ∷ [] else []

-- what all rows give
abbrev pub all_chosen : {A B : Type 0} → (A → Bool) → (A → B) → List A → List B
all_chosen p give xs = map give (filter p xs)
