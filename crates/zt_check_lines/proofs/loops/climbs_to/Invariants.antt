use Rattle.std.proofs.Common.{◌≡◌, ◌-◌, length}
use Rattle.zt_model.specs.Linking.{climbs_to}
use Rattle.zt_check_lines.proofs.loops.climbs_to.Given as goal

-- what is left to climb decides
abbrev pub invariant-loop-climbed : goal.invariant-loop-climbed
invariant-loop-climbed g l =
    climbs_to (length l.fabric.gateways - l.climbed) l.fabric l.at l.to ≡ climbs_to (length l.fabric.gateways) l.fabric l.from l.to
