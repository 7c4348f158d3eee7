-- The call that is kept.
use Rattle.std.specs.Prelude.{None}
use Rattle.zt_protocol.specs.Plain.{PlainCall, NewSession, DeclareToken, UndeclareToken, InterestFinal, DeclareFinal, CloseFace, Expire, plain_call}
use Rattle.zt_rollback.specs.declared.kept.KeptCall.{KeptCall}
use Rattle.zt_rollback.specs.declared.kept.KeptCall.TheVariants as kept

abbrev pub kept_call : {K : Type 0} → KeptCall K → PlainCall K
kept_call (kept.NewSession first) = NewSession first
kept_call (kept.DeclareToken face id expr) = DeclareToken face id expr 0 None
kept_call (kept.UndeclareToken face id) = UndeclareToken face id None 0
kept_call (kept.InterestFinal face id) = InterestFinal face id
kept_call (kept.DeclareFinal face interest) = DeclareFinal face interest
kept_call (kept.CloseFace face) = CloseFace face
kept_call (kept.Expire now) = Expire now
kept_call (kept.Other call) = plain_call call.value
