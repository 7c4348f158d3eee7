use Rattle.std.proofs.Common.{◌≡◌, ◌≤◌, length}
use Rattle.zt_keys.specs.Walking.{find_place, walked}
use Rattle.zt_keys.proofs.walk.find_place.Given as goal

abbrev pub invariant-loop-found : goal.invariant-loop-found
invariant-loop-found l = record {
  place : find_place (walked l.first) (walked l.rest) ≡ find_place (walked l.first) (walked l.second);
  shorter : length l.rest ≤ length l.second;
}

abbrev pub decreases-loop-found : goal.decreases-loop-found
decreases-loop-found l = length l.rest
