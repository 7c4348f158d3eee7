-- What calls leave, one behind another.
use Rattle.std.specs.Prelude.{Bool, List, [], ◌∷◌}
use Rattle.std.specs.declared.cmp.Ordering.{Ordering}
use Rattle.zt_protocol.specs.Plain.{PlainCall}
use Rattle.zt_model.specs.Rows.{Rows}
use Rattle.zt_laws.specs.Sound.{rows_after_call}

module _ {K : Type 0} (cmp : K → K → Ordering) (matching : K → K → Bool) where
  abbrev pub rows_after_calls : List (PlainCall K) → Rows K → Rows K
  rows_after_calls [] g = g
  rows_after_calls (c ∷ cs) g = rows_after_calls cs (rows_after_call cmp matching c g)

-- what a gateway kept before a call, and the call
pub record Before (K : Type 0) : Type 0 where
  pub rows : Rows K
  pub call : PlainCall K
