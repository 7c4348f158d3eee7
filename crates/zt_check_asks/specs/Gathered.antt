-- Answers that are gathered in a set.
use Rattle.std.specs.Prelude.{◌≡◌, Bool, true, false, List, Option, None, Some}
use Rattle.std.specs.declared.cmp.Ordering.{Ordering}
use Rattle.zt_model.specs.Lists.{is_among}
use Rattle.zt_model.specs.Promises.{are_new}

module _ {K : Type 0} (cmp : K → K → Ordering) where
  -- the keys of the set are the expressions, where these are many
  pub record AreFound (many : Bool) (keys exprs : List K) : Type 0 where
    pub at : many ≡ true → (q : K) → is_among cmp q keys ≡ is_among cmp q exprs

module _ {K : Type 0} (cmp : K → K → Ordering) (matching : K → K → Bool) where
  -- the expressions are gathered if each is there once, and none was known before
  abbrev pub IsGathered : List K → List K → Option (List K) → Type 0
  IsGathered known exprs None = are_new cmp matching known exprs ≡ false
  IsGathered known exprs (Some answers) = (are_new cmp matching known exprs ≡ true) × (answers ≡ exprs)
