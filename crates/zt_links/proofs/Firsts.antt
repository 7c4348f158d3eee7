-- The first of a list that passes a test, and those that pass.
use Rattle.std.proofs.Common.{◌≡◌, Bool, List, [], ◌∷◌, filter, map, option_map, refl}
use Rattle.std.specs.List.{slice_get}
use Rattle.zt_laws.proofs.Lists.{by_test}
use Rattle.zt_model.specs.Lists.{first_where}

-- the first of those that pass
pub first_kept : {A B : Type 0} (p : A → Bool) (f : A → B) (xs : List A) → slice_get (map f (filter p xs)) 0 ≡ option_map f (first_where p xs)
first_kept p f [] = refl
first_kept p f (x ∷ xs) = by_test (p x) (λ here. rw here refl) (λ past. rw past (first_kept p f xs))
