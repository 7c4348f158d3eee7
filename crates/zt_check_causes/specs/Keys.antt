-- Keys put in their places among others, the last first.
use Rattle.std.specs.Prelude.{List, [], ◌∷◌}
use Rattle.std.specs.declared.cmp.Ordering.{Ordering}
use Rattle.zt_model.specs.Lists.{with_key}

module _ {K : Type 0} (cmp : K → K → Ordering) where
  abbrev pub with_keys : List K → List K → List K
  with_keys [] known = known
  with_keys (e ∷ es) known = with_key cmp e (with_keys es known)
