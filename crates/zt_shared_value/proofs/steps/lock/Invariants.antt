use Rattle.std.proofs.Common.{◌≡◌}
use Rattle.zt_shared_value.specs.Seats.{IsSameSeat}
use Rattle.zt_shared_value.proofs.steps.lock.Given as goal

abbrev pub invariant-loop : goal.invariant-loop
invariant-loop g l = IsSameSeat l.initial.seat l.seat × (l.seat.me ≡ l.initial.seat.me)
