-- Sets of interests that some join.
use Rattle.std.proofs.Common.{◌≡◌, ℕ, ◌==◌, true, false, List, [], ◌∷◌, ◌++◌, refl}
use Rattle.std.specs.List.{list_any}
use Rattle.zt_ordered.specs.Test.{by_test}
use Rattle.zt_locals.specs.Interests.{has_none, with_interest, joined}

grown : (set : List ℕ) (id : ℕ) → has_none set ≡ false → has_none (set ++ id ∷ []) ≡ false
grown [] id some = refl
grown (x ∷ set) id some = refl

one_some : (set : List ℕ) (id : ℕ) → has_none set ≡ false → has_none (with_interest set id) ≡ false
one_some set id some = by_test (list_any (λ other. other == id) set) (λ there. rw there some) (λ there. rw there (grown set id some))

-- a set with an interest keeps one
pub joined_some : (set more : List ℕ) → has_none set ≡ false → has_none (joined set more) ≡ false
joined_some set [] some = some
joined_some set (id ∷ more) some = joined_some (with_interest set id) more (one_some set id some)

-- an empty set stays so where none joins
pub joined_none : (set more : List ℕ) → has_none set ≡ true → has_none (joined set more) ≡ has_none more
joined_none [] [] none = refl
joined_none [] (id ∷ more) none = joined_some (id ∷ []) more refl
joined_none (x ∷ set) more none = cc
