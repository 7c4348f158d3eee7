-- The numbers that calls answer.
use Rattle.std.specs.Prelude.{ℕ, ◌+◌}
use Rattle.zt_protocol.specs.Refusal.{number_of}
use Rattle.zt_liveliness.specs.declared.errors.ApiError.{ApiError}
use Rattle.zt_liveliness.specs.declared.errors.ApiError.TheVariants.{NoSuchFace, NoSuchToken, NoSuchSubscriber, Spent, Refused, Memory}

-- the status of an error
abbrev pub status_of : ApiError → ℕ
status_of NoSuchFace = 10
status_of NoSuchToken = 11
status_of NoSuchSubscriber = 12
status_of Spent = 14
status_of (Refused refusal) = 100 + number_of refusal
status_of Memory = 5
