use Rattle.std.proofs.Common.{◌≡◌, ap, map, take, ◌∙◌}
use Rattle.std.proofs.lemmas.List.{take_all}
use Rattle.zt_interests.specs.Lowest.{interest_to}
use Rattle.zt_interests.proofs.North.{routed-is}
use Rattle.zt_interests.proofs.routing.route.Goals as goal

pub returns-clause-sent : goal.returns-clause-sent
returns-clause-sent g c = c.loop-target.invariant ∙ ap (map (interest_to c.args.interest.now)) (take_all c.loop-target.target-index c.args.targets.now c.loop-target-test.false)

pub returns-clause-routed : goal.returns-clause-routed
returns-clause-routed g c = λ asker rows are.
    c.loop-target.invariant
    ∙ ap (map (interest_to c.args.interest.now)) (take_all c.loop-target.target-index c.args.targets.now c.loop-target-test.false ∙ are)
    ∙ routed-is rows asker c.args.interest.now
