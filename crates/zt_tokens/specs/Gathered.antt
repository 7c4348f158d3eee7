-- Keys put in order.
use Rattle.std.specs.Prelude.{List, [], ◌∷◌}
use Rattle.std.specs.declared.cmp.Ordering.{Ordering}
use Rattle.zt_model.specs.Lists.{with_key}

-- keys put in their places, the last first
abbrev pub with_keys : {K : Type 0} → (K → K → Ordering) → List K → List K → List K
with_keys cmp [] keys = keys
with_keys cmp (e ∷ es) keys = with_key cmp e (with_keys cmp es keys)
