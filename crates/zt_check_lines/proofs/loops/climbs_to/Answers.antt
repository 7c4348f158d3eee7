use Rattle.std.proofs.Common.{◌<◌, ◌≤◌, length, ap, arith, sym, ◌∙◌}
use Rattle.zt_check_lines.proofs.Climbing.{at_the_end, climbed, no_higher, one_higher}
use Rattle.zt_check_lines.proofs.loops.climbs_to.Goals as goal

pub returns-then-at-to : goal.returns-then-at-to
returns-then-at-to g c =
    let s = c.args.fabric.now in
    let within : c.loop-climbed.climbed < length s.gateways = omega (arith, c.loop-climbed-test.true, ap length c.gateways-climbed-end.ensures) in
    climbed s (length s.gateways) c.loop-climbed.climbed c.loop-climbed.at c.args.to within c.if-at-to.true ∙ c.loop-climbed.invariant

pub returns-in-None : goal.returns-in-None
returns-in-None g c =
    let s = c.args.fabric.now in
    let within : c.loop-climbed.climbed < length s.gateways = omega (arith, c.loop-climbed-test.true, ap length c.gateways-climbed-end.ensures) in
    no_higher s (length s.gateways) c.loop-climbed.climbed c.loop-climbed.at c.args.to within c.if-at-to.false (sym c.gateway_above.ensures ∙ c.in-None.is) ∙ c.loop-climbed.invariant

pub loop-climbed-preserved : goal.loop-climbed-preserved
loop-climbed-preserved g c =
    let s = c.args.fabric.now in
    let within : c.loop-climbed.climbed < length s.gateways = omega (arith, c.loop-climbed-test.true, ap length c.gateways-climbed-end.ensures) in
    one_higher s (length s.gateways) c.loop-climbed.climbed c.loop-climbed.at c.in-Some.above c.args.to within c.if-at-to.false (sym c.gateway_above.ensures ∙ c.in-Some.is) ∙ c.loop-climbed.invariant

pub returns : goal.returns
returns g c =
    let s = c.args.fabric.now in
    let past : length s.gateways ≤ c.loop-climbed.climbed = omega (arith, c.loop-climbed-test.false, ap length c.gateways-climbed-end.ensures) in
    at_the_end s (length s.gateways) c.loop-climbed.climbed c.loop-climbed.at c.args.to past ∙ c.loop-climbed.invariant
