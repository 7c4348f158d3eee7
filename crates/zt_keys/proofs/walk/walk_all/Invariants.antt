use Rattle.std.proofs.Common.{◌≡◌, ◌+◌, length}
use Rattle.zt_keys.specs.Parts.{parts_match}
use Rattle.zt_keys.specs.Walking.{walked}
use Rattle.zt_keys.proofs.walk.walk_all.Given as goal

abbrev pub invariant-loop-x : goal.invariant-loop-x
invariant-loop-x l = parts_match (walked l.a) (walked l.b) ≡ parts_match (walked l.first) (walked l.second)

abbrev pub decreases-loop-x : goal.decreases-loop-x
decreases-loop-x l = length l.a + length l.b
