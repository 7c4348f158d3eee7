use Rattle.std.proofs.Common.{sym, ◌∙◌}
use Rattle.zt_check_keeping.specs.Keeping.{keeps_rightly}
use Rattle.zt_check_keeping.proofs.Owed.{all_true}
use Rattle.zt_check_keeping.proofs.Tried.{owed_tried, told_tried}
use Rattle.zt_check_keeping.proofs.keeping.faces_keep_rightly.Goals as goal

pub returns-then-is_shown_to_none : goal.returns-then-is_shown_to_none
returns-then-is_shown_to_none g c =
    let x = c.args in
    sym (all_true (λ f. keeps_rightly g.K.Ord.cmp g.K.Key.matching x.bound x.rows.now f x.expr.now) (c.is_shown_to_none.ensures c.if-is_shown_to_none.true) x.rows.now.faces)

pub returns-in-Upper : goal.returns-in-Upper
returns-in-Upper g c =
    let x = c.args in
    let t = c.new-breaks.result in
    let is = c.new-breaks.ensures in
    told_tried g.K.Ord.cmp g.K.Key.matching x.bound t.bound t.own t.shown x.rows.now t.rows.now x.expr.now t.expr.now c.in-Upper.is is.bound is.rows is.expr is.shown c.any_told.result c.any_told.ensures

pub returns-in-Lower : goal.returns-in-Lower
returns-in-Lower g c =
    let x = c.args in
    let t = c.new-breaks.result in
    let is = c.new-breaks.ensures in
    owed_tried g.K.Ord.cmp g.K.Key.matching x.bound t.bound t.own t.shown x.rows.now t.rows.now x.expr.now t.expr.now c.in-Lower.is is.bound is.rows is.expr is.shown c.any_owed.result c.any_owed.ensures
