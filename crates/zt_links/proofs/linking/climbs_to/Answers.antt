use Rattle.std.proofs.Common.{arith, sym, ◌∙◌}
use Rattle.zt_links.proofs.Climbing.{climb_here, climb_last, climb_more, climb_stops}
use Rattle.zt_links.proofs.linking.climbs_to.Goals as goal

pub returns-then-at-to : goal.returns-then-at-to
returns-then-at-to g c = climb_here c.loop-left.left c.args.s.now c.loop-left.at c.args.to c.if-at-to.true ∙ c.loop-left.invariant

pub returns-in-None : goal.returns-in-None
returns-in-None g c =
    climb_stops c.loop-left.left c.args.s.now c.loop-left.at c.args.to (omega arith) c.if-at-to.false (sym c.in_ok-gateway_above.ensures ∙ c.in-None.is) ∙ c.loop-left.invariant

pub loop-left-preserved : goal.loop-left-preserved
loop-left-preserved g c =
    climb_more c.loop-left.left c.args.s.now c.loop-left.at c.args.to c.in-Some.above (omega arith) c.if-at-to.false (sym c.in_ok-gateway_above.ensures ∙ c.in-Some.is) ∙ c.loop-left.invariant

pub returns : goal.returns
returns g c = climb_last c.loop-left.left c.args.s.now c.loop-left.at c.args.to (omega arith) ∙ c.loop-left.invariant
