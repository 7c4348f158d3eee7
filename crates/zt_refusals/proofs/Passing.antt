-- Whether any of a list passes a test, by those that do.
use Rattle.std.proofs.Common.{◌≡◌, ◌==◌, Bool, List, [], ◌∷◌, arith, filter, length, map, ne_eqb, not, refl}
use Rattle.std.specs.List.{list_any}
use Rattle.zt_keys.specs.Test.{by_test}

pub some_pass : {A B : Type 0} (give : A → B) (p : A → Bool) (xs : List A) → not (length (map give (filter p xs)) == 0) ≡ list_any p xs
some_pass give p [] = refl
some_pass give p (x ∷ xs) =
    by_test (p x)
    (λ t. rw (t, ne_eqb (length (give x ∷ map give (filter p xs))) 0 (omega arith)) refl)
    (λ t. rw t (some_pass give p xs))
