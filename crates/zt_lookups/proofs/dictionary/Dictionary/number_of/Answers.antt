use Rattle.std.proofs.Common.{◌≡◌, ◌+◌, ◌∙◌}
use Rattle.std.proofs.lemmas.Result.{IfOk-weaker}
use Rattle.zt_model.specs.Entities.{number_in}
use Rattle.zt_lookups.proofs.Numbers.{number-none, number-some}
use Rattle.zt_lookups.proofs.dictionary.Dictionary.number_of.Goals as goal

pub returns-in-None : goal.returns-in-None
returns-in-None g c =
    rw (← c.self.view_is)
    (number-none g.K.Ord.cmp g.met.K.Ord.matches_eq c.args.expr.now c.self.inside.exprs.keys c.in-None.ensures.index)

pub returns-in-Some : goal.returns-in-Some
returns-in-Some g c =
    rw (← c.self.view_is)
    (IfOk-weaker c.number_at.result (λ n. n ≡ c.in-Some.place + 1) (λ n. n ≡ number_in g.K.Ord.cmp 1 c.args.expr.now c.self.inside.exprs.keys)
    (λ n is. is ∙ number-some g.K.Ord.cmp g.met.K.Ord.matches_eq c.args.expr.now c.self.inside.exprs.keys c.in-Some.place c.in-Some.ensures.index)
    c.number_at.ensures)
