-- Members of a list in an order: where one stands, or would stand.
use Rattle.std.specs.Prelude.{◌≡◌, ℕ, ◌≤◌, List, [], ◌∷◌, length, take, drop, Result, Ok, Err}
use Rattle.std.specs.List.{AllByRecursion}
use Rattle.std.specs.FinMap.Entries.{by_order}
use Rattle.std.specs.declared.cmp.Ordering.{Ordering}
use Rattle.std.specs.declared.cmp.Ordering.TheVariants.{Less, Equal, Greater}

module _ {X : Type 0} (order : X → Ordering) where
  -- a member before the first that it isn't behind, or in place of one that is the same
  abbrev pub placed : X → (X → X) → List X → List X
  placed new same [] = new ∷ []
  placed new same (x ∷ xs) = by_order (order x) (new ∷ x ∷ xs) (same x ∷ xs) (x ∷ placed new same xs)

  abbrev pub BeginsEqual : List X → Type 0
  BeginsEqual [] = ⊥
  BeginsEqual (x ∷ xs) = order x ≡ Equal

  abbrev pub BeginsLess : List X → Type 0
  BeginsLess [] = Unit {0}
  BeginsLess (x ∷ xs) = order x ≡ Less

  -- what is sought is behind all before this place
  pub record IsBehind (xs : List X) (place : ℕ) : Type 0 where
    pub within : place ≤ length xs
    pub behind : AllByRecursion (λ x. order x ≡ Greater) (take place xs)

  -- it stands in the place, or would stand there
  abbrev pub FindsPlace : List X → Result ℕ ℕ → Type 0
  FindsPlace xs (Ok place) = IsBehind xs place × BeginsEqual (drop place xs)
  FindsPlace xs (Err place) = IsBehind xs place × BeginsLess (drop place xs)
