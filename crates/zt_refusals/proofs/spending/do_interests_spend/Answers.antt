use Rattle.std.proofs.Common.{sym, ◌∙◌}
use Rattle.zt_refusals.proofs.Askers.{asker_lacks, closed_lack, targets_lack}
use Rattle.zt_refusals.proofs.spending.do_interests_spend.Goals as goal

pub returns-in_default : goal.returns-in_default
returns-in_default g c = closed_lack g.K.Ord.cmp g.K.Key.matching c.args.face c.args.mode c.args.options c.args.expr.now c.args.g.now (sym c.in_default.ensures)

pub returns-then-branch : goal.returns-then-branch
returns-then-branch g c =
    sym
    (asker_lacks g.K.Ord.cmp g.K.Key.matching c.args.face c.args.mode c.args.options c.args.expr.now c.args.g.now c.in-Some.from.now (sym c.in-Some.ensures)
    (sym c.in_ok-lacks_answer_ids.ensures ∙ c.if-branch.true))

pub returns : goal.returns
returns g c =
    let lack = rw (c.region.ensures, c.north.ensures.north) at c.do_targets_lack.ensures in
    lack
    ∙ targets_lack g.K.Ord.cmp g.K.Key.matching c.args.face c.args.mode c.args.options c.args.expr.now c.args.g.now c.in-Some.from.now (sym c.in-Some.ensures) c.north.ensures.rising
    (sym c.in_ok-lacks_answer_ids.ensures ∙ c.if-branch.false)
