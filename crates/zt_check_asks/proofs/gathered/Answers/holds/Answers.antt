use Rattle.std.proofs.Common.{◌∙◌}
use Rattle.zt_check_asks.proofs.Found.{found_by}
use Rattle.zt_check_asks.proofs.gathered.Answers.holds.Goals as goal

pub returns-then-self : goal.returns-then-self
returns-then-self g c =
    rw (← c.self.view_is)
    (c.contains.ensures ∙ (found_by g.K.Ord.cmp g.met.K.Ord.matches_eq c.args.expr.now c.self.inside.found.keys ∙ c.self.invariant.at c.if-self.true c.args.expr.now))
