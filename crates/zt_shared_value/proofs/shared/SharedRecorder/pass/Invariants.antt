use Rattle.std.proofs.Common.{◌≡◌, ◌-◌, ◌≤◌}
use Rattle.zt_shared_value.proofs.shared.SharedRecorder.pass.Given as goal

abbrev pub invariant-loop-known : goal.invariant-loop-known
invariant-loop-known g l = (l.pass ≡ record l.initial.pass { known = l.known }) × (l.initial.pass.known ≤ l.known) × (l.known ≤ 4294967295)

abbrev pub decreases-loop-known : goal.decreases-loop-known
decreases-loop-known g l = 4294967295 - l.known
