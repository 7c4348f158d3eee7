use Rattle.std.proofs.Common.{sym, ◌∙◌}
use Rattle.std.proofs.lemmas.Result.{IfOk-weaker}
use Rattle.zt_model.specs.Visible.{visible_expressions}
use Rattle.zt_tokens.proofs.Answers.{about_none}
use Rattle.zt_tokens.proofs.answering.asked_expressions.Goals as goal

pub returns-in-None : goal.returns-in-None
returns-in-None g c =
    IfOk-weaker c.visible_expressions.result _ _
    (λ exprs is. is ∙ sym (about_none g.K.Key.matching c.args.interest.now.expr (sym c.expr.ensures ∙ c.in-None.is) (visible_expressions g.K.Ord.cmp c.args.g.now c.args.own)))
    c.visible_expressions.ensures
