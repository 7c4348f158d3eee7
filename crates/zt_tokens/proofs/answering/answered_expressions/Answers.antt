use Rattle.std.proofs.Common.{sym, ◌∙◌}
use Rattle.std.proofs.lemmas.Result.{IfOk-weaker}
use Rattle.zt_tokens.proofs.Answers.{answered_is}
use Rattle.zt_tokens.proofs.answering.answered_expressions.Goals as goal

pub returns : goal.returns
returns g c =
    IfOk-weaker c.asked_expressions.result _ _
    (λ exprs is. is ∙ rw c.region.ensures (answered_is g.K.Ord.cmp g.K.Key.matching c.args.g.now c.args.interest.now c.args.f.now (sym c.asks_now.ensures ∙ c.if-not-asks_now.false)))
    c.asked_expressions.ensures
