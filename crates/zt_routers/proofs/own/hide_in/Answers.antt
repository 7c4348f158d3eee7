use Rattle.std.proofs.Common.{ap, sym, ◌∙◌}
use Rattle.std.proofs.lemmas.Result.{IfOk-weaker}
use Rattle.zt_model.specs.Parts.{to_each}
use Rattle.zt_model.specs.Trees.{unpass_to}
use Rattle.zt_routers.proofs.Only.{hides_there, hides_nowhere}
use Rattle.zt_routers.proofs.own.hide_in.Goals as goal

pub returns-then-is_hidden : goal.returns-then-is_hidden
returns-then-is_hidden g c =
    let rows = c.args.g.now in
    let is = sym c.is_hidden.ensures ∙ c.if-is_hidden.true in
    IfOk-weaker c.unpass.result _ _
    (λ sends given.
    given
    ∙ ap (λ z. to_each (unpass_to g.K.Ord.cmp rows c.args.region z c.args.expr.now) rows.faces) c.zid.ensures
    ∙ hides_there g.K.Ord.cmp rows c.args.source c.args.expr.now c.args.region c.requires is)
    c.unpass.ensures

pub returns-else-is_hidden : goal.returns-else-is_hidden
returns-else-is_hidden g c =
    c.new.ensures.items ∙ hides_nowhere g.K.Ord.cmp c.args.g.now c.args.source c.args.expr.now c.args.region c.requires (sym c.is_hidden.ensures ∙ c.if-is_hidden.false)
