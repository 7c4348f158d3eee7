use Rattle.std.proofs.Common.{◌≡◌, ◌++◌, None, length}
use Rattle.zt_keys.specs.Numbers.{numbers_from}
use Rattle.zt_keys.specs.Walking.{walked}
use Rattle.zt_keys.proofs.chunk_numbers.text_numbers.Given as goal

abbrev pub invariant-loop-rest : goal.invariant-loop-rest
invariant-loop-rest l = l.numbers.items ++ numbers_from l.before (walked l.rest) ≡ numbers_from None (walked l.text)

abbrev pub decreases-loop-rest : goal.decreases-loop-rest
decreases-loop-rest l = length l.rest
