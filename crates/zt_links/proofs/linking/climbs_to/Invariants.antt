use Rattle.std.proofs.Common.{◌≡◌}
use Rattle.zt_model.specs.Linking.{climbs_to}
use Rattle.zt_links.proofs.linking.climbs_to.Given as goal

-- what is left of the way decides
abbrev pub invariant-loop-left : goal.invariant-loop-left
invariant-loop-left g l = climbs_to l.left l.s l.at l.to ≡ climbs_to l.most l.s l.from l.to

abbrev pub decreases-loop-left : goal.decreases-loop-left
decreases-loop-left g l = l.left
