use Rattle.std.proofs.Common.{ap, sym, ◌∙◌}
use Rattle.std.proofs.lemmas.Result.{IfOk-weaker}
use Rattle.zt_model.specs.Parts.{to_each}
use Rattle.zt_model.specs.Trees.{pass_to}
use Rattle.zt_routers.proofs.Only.{shows_there, shows_nowhere}
use Rattle.zt_routers.proofs.own.show_in.Goals as goal

pub returns-then-is_newly_shown : goal.returns-then-is_newly_shown
returns-then-is_newly_shown g c =
    let rows = c.args.g.now in
    let is = sym c.is_newly_shown.ensures ∙ c.if-is_newly_shown.true in
    IfOk-weaker c.pass_on.result _ _
    (λ sends given.
    given
    ∙ ap (λ z. to_each (pass_to g.K.Ord.cmp rows c.args.region z c.args.expr.now) rows.faces) c.zid.ensures
    ∙ shows_there g.K.Ord.cmp rows c.args.source c.args.expr.now c.args.region c.requires is)
    c.pass_on.ensures

pub returns-else-is_newly_shown : goal.returns-else-is_newly_shown
returns-else-is_newly_shown g c =
    c.new.ensures.items ∙ shows_nowhere g.K.Ord.cmp c.args.g.now c.args.source c.args.expr.now c.args.region c.requires (sym c.is_newly_shown.ensures ∙ c.if-is_newly_shown.false)
