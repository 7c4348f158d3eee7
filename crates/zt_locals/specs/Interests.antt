-- Sets of interests, as lists in which each stands once.
use Rattle.std.specs.Prelude.{ℕ, Bool, true, false, not, ◌&&◌, ◌==◌, if◌then◌else◌, List, [], ◌∷◌, ◌++◌, filter}
use Rattle.std.specs.List.{list_any}

-- whether there is none
abbrev pub has_none : List ℕ → Bool
has_none [] = true
has_none (id ∷ set) = false

-- whether an interest is in the set
abbrev pub has_interest : ℕ → List ℕ → Bool
has_interest id set = list_any (λ other. other == id) set

-- the set, with an interest behind the others unless it is there
abbrev pub with_interest : List ℕ → ℕ → List ℕ
with_interest set id = if has_interest id set then set else set ++ id ∷ []

-- the set, with each of some interests
abbrev pub joined : List ℕ → List ℕ → List ℕ
joined set [] = set
joined set (id ∷ ids) = joined (with_interest set id) ids

-- the set without an interest
abbrev pub without_interest : ℕ → List ℕ → List ℕ
without_interest id set = filter (λ other. not (other == id)) set

-- whether the set has an interest and no other
abbrev pub is_only : ℕ → List ℕ → Bool
is_only id set = has_interest id set && has_none (without_interest id set)
