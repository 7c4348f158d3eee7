-- The entries of refused calls.
use Rattle.std.specs.Prelude.{◌≡◌, Err}
use Rattle.zt_protocol.specs.Plain.{PlainEntry}
use Rattle.zt_protocol.specs.declared.errors.CallError.{CallError}
use Rattle.zt_protocol.specs.declared.errors.CallError.TheVariants.{Refused}
use Rattle.zt_protocol.specs.declared.errors.Refusal.{Refusal}

-- the error is a refusal, and the entry has it
pub record IsEntryOf {K : Type 0} (error : CallError) (entry : PlainEntry K) : Type 0 where
  pub refusal : Refusal
  pub is : error ≡ Refused refusal
  pub entry_is : entry ≡ Err refusal
