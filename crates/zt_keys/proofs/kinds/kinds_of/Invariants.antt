use Rattle.std.proofs.Common.{◌≡◌, length}
use Rattle.zt_keys.specs.Kinds.{kinds_from}
use Rattle.zt_keys.specs.Walking.{walked}
use Rattle.zt_keys.proofs.kinds.kinds_of.Given as goal

abbrev pub invariant-loop-rest : goal.invariant-loop-rest
invariant-loop-rest l = kinds_from l.kinds (walked l.rest) ≡ kinds_from 18446744073709551615 (walked l.text)

abbrev pub decreases-loop-rest : goal.decreases-loop-rest
decreases-loop-rest l = length l.rest
