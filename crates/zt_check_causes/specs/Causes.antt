-- Why a call is refused, where enough ids are left.
use Rattle.std.specs.Prelude.{Bool, false, Option}
use Rattle.std.specs.declared.cmp.Ordering.{Ordering}
use Rattle.zt_protocol.specs.Plain.{PlainCall}
use Rattle.zt_protocol.specs.declared.errors.Refusal.{Refusal}
use Rattle.zt_model.specs.Refusals.{call_causes, first_cause}
use Rattle.zt_model.specs.Rows.{Rows}

module _ {K : Type 0} (cmp : K → K → Ordering) (matching : K → K → Bool) where
  -- the first of its causes
  unfoldable pub call_cause : PlainCall K → Rows K → Option Refusal
  call_cause call g = first_cause (call_causes cmp matching false call g)
