-- What of a turn its asks are judged by: what its call asks and declares, and what is printed.
use Rattle.std.specs.Prelude.{ℕ, if◌then◌else◌, List, Option, None, Some}
use Rattle.zt_protocol.specs.Interest.{is_current}
use Rattle.zt_protocol.specs.Plain.{PlainCall, DeclareToken, Interest}
use Rattle.zt_protocol.specs.declared.entries.Sent.{Sent}
use Rattle.zt_model.specs.Fabric.{CallAt}
use Rattle.zt_model.specs.Routing.{stands}
use Rattle.zt_model.specs.Rows.{Rows}

-- the ask that a call makes, by its gateway, its face and its id
abbrev pub asked_by : {K : Type 0} → ℕ → PlainCall K → Option (ℕ × ℕ × ℕ)
asked_by gateway (Interest n id mode options e) = if is_current mode then Some (gateway, n, id) else None
asked_by gateway _ = None

-- the pending that a call's token answers, by its gateway, where it stands
abbrev pub answered_by : {K : Type 0} → ℕ → Rows K → PlainCall K → Option (ℕ × ℕ × ℕ)
answered_by gateway g (DeclareToken n id e node (Some interest)) = if stands g (n, interest) then Some (gateway, n, interest) else None
answered_by gateway g _ = None

-- the expression that a call declares
abbrev pub declared_by : {K : Type 0} → PlainCall K → Option K
declared_by (DeclareToken n id e node interest) = Some e
declared_by _ = None

-- ---- of the one call of a line, where it has one

abbrev pub asked_at : {K : Type 0} → Option (CallAt K) → Option (ℕ × ℕ × ℕ)
asked_at None = None
asked_at (Some at) = asked_by at.gateway at.call

abbrev pub answered_at : {K : Type 0} → Option (CallAt K) → Option (ℕ × ℕ × ℕ)
answered_at None = None
answered_at (Some at) = answered_by at.gateway at.rows at.call

abbrev pub declared_at : {K : Type 0} → Option (CallAt K) → Option K
declared_at None = None
declared_at (Some at) = declared_by at.call

-- what of a turn its asks are judged by: the ask that it makes, the pending that its token answers, the expression that it
-- declares, and what is printed
pub record PlainTold (K : Type 0) : Type 0 where
  pub asking : Option (ℕ × ℕ × ℕ)
  pub pending : Option (ℕ × ℕ × ℕ)
  pub expr : Option K
  pub sents : List (Sent K)

abbrev pub told_of : {K : Type 0} → Option (CallAt K) → List (Sent K) → PlainTold K
told_of at ms = record { asking = asked_at at; pending = answered_at at; expr = declared_at at; sents = ms }
