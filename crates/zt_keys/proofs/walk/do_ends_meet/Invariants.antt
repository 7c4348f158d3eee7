use Rattle.std.proofs.Common.{length}
use Rattle.zt_keys.specs.Meet.{Meet}
use Rattle.zt_keys.specs.Walking.{walked}
use Rattle.zt_keys.proofs.walk.do_ends_meet.Given as goal

abbrev pub invariant-loop-before_a : goal.invariant-loop-before_a
invariant-loop-before_a l = Meet (walked l.first) (walked l.second) → Meet (walked l.a) (walked l.b)

abbrev pub decreases-loop-before_a : goal.decreases-loop-before_a
decreases-loop-before_a l = length l.a
