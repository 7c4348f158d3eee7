use Rattle.std.proofs.Common.{◌≡◌, map, take}
use Rattle.zt_interests.specs.Lowest.{interest_to}
use Rattle.zt_interests.proofs.routing.route.Given as goal

-- those so far are sent
abbrev pub invariant-loop-target : goal.invariant-loop-target
invariant-loop-target g l = l.sends.items ≡ map (interest_to l.interest) (take l.target-index l.targets)
