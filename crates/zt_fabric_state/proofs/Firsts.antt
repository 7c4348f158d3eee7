-- The first of a list that passes a test, where there is one.
use Rattle.std.proofs.Common.{◌≡◌, Bool, List, [], ◌∷◌, Option, Some, None, Bor, is_some, refl}
use Rattle.std.specs.List.{list_any}
use Rattle.std.specs.Option.{option_copied}
use Rattle.zt_laws.proofs.Lists.{by_test}
use Rattle.zt_model.specs.Lists.{first_where}

-- what stands behind a reference is there where the reference is
pub some_copied : {A : Type 0} (o : Option (Bor A)) → is_some o ≡ is_some (option_copied o)
some_copied None = refl
some_copied (Some x) = refl

module _ {A : Type 0} (p : A → Bool) where
  -- there is a first one exactly if some one passes
  pub some_first : (xs : List A) → is_some (first_where p xs) ≡ list_any p xs
  some_first [] = refl
  some_first (x ∷ xs) = by_test (p x) (λ here. rw here refl) (λ past. rw past (some_first xs))
