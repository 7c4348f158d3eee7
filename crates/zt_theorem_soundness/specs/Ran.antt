-- What the parts of a call run to, one after another: a change is made, and what is said is heard at once.
use Rattle.std.specs.Prelude.{List, [], ◌∷◌}
use Rattle.std.specs.declared.cmp.Ordering.{Ordering}
use Rattle.zt_model.specs.Hearing.{rows_heard}
use Rattle.zt_model.specs.Rows.{Rows}
use Rattle.zt_model.specs.Says.{Part, Alter, Say}

module _ {K : Type 0} (cmp : K → K → Ordering) where
  unfoldable pub ran : List (Part K) → Rows K → Rows K
  ran [] g = g
  ran (Alter change ∷ parts) g = ran parts (change g)
  ran (Say rule ∷ parts) g = ran parts (rows_heard cmp (rule g) g)
