-- Sums and facts over the parts of all views.
use Rattle.std.specs.Prelude.{ℕ, List}
use Rattle.std.specs.List.{sum_by, AllByRecursion}

module _ {P : Type 0} where
  -- the sum of a weight over the parts of all views
  abbrev pub total : (P → ℕ) → List (List P) → ℕ
  total weight views = sum_by (λ parts. sum_by weight parts) views

  -- a fact of each part of all views
  abbrev pub AllParts : (P → Type 0) → List (List P) → Type 0
  AllParts Fact views = AllByRecursion (AllByRecursion Fact) views
