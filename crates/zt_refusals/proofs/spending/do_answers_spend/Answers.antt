use Rattle.std.proofs.Common.{sym, ◌∙◌}
use Rattle.std.proofs.lemmas.Result.{IfOk-weaker}
use Rattle.zt_refusals.proofs.Answering.{asker_lacks, nobody_lacks, others_lack}
use Rattle.zt_refusals.proofs.spending.do_answers_spend.Goals as goal

pub returns-in-Nobody : goal.returns-in-Nobody
returns-in-Nobody g c =
    let rows = c.args.g.now in
    IfOk-weaker c.do_others_lack.result _ _
    (λ lack given. given
    ∙ sym (nobody_lacks g.K.Ord.cmp g.K.Key.matching c.args.face c.args.id c.args.expr.now c.args.from.now rows c.requires rows.faces (rw c.in-Nobody.is at c.asker.ensures.asker)))
    c.do_others_lack.ensures

pub returns-then-does_asker_lack : goal.returns-then-does_asker_lack
returns-then-does_asker_lack g c =
    sym
    (asker_lacks g.K.Ord.cmp g.K.Key.matching c.args.face c.args.id c.args.expr.now c.args.from.now c.args.g.now c.requires c.in-One.asker
    (sym c.does_asker_lack.ensures ∙ c.if-does_asker_lack.true))

pub returns-else-does_asker_lack : goal.returns-else-does_asker_lack
returns-else-does_asker_lack g c =
    let rows = c.args.g.now in
    IfOk-weaker c.do_others_lack-in-One.result _ _
    (λ lack given. given
    ∙ sym (others_lack g.K.Ord.cmp g.K.Key.matching c.args.face c.args.id c.args.expr.now c.args.from.now rows c.requires c.in-One.asker c.in-One.id c.in-One.place c.asker.ensures.rising (rw c.in-One.is at c.asker.ensures.asker)
    (sym c.does_asker_lack.ensures ∙ c.if-does_asker_lack.false)))
    c.do_others_lack-in-One.ensures
