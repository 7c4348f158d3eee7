use Rattle.std.proofs.Common.{◌≡◌, true, false, rules, sym, ◌∙◌, arith}
use Rattle.zt_check_asks.specs.Answering.{is_answered_under}
use Rattle.zt_check_asks.proofs.Walked.{all_left, none_left}
use Rattle.zt_check_asks.proofs.answers.all_answered_under.Goals as goal

pub returns-then-not-branch : goal.returns-then-not-branch
returns-then-not-branch g c =
    let x = c.args in
    let cmp = g.K.Ord.cmp in
    let matching = g.K.Key.matching in
    let bad : c.in_ok-is_answered_under.field-0 ≡ false = search (rules, c.if-not-branch.true) in
    none_left (is_answered_under cmp matching x.fabric.now x.told.now x.pending x.rows.now x.face.now) x.asks.now c.loop-row.row-index c.row-item.result (omega arith) c.row-item.is
    (sym c.in_ok-is_answered_under.ensures ∙ bad) c.loop-row.invariant

pub loop-row-preserved : goal.loop-row-preserved
loop-row-preserved g c =
    let x = c.args in
    let cmp = g.K.Ord.cmp in
    let matching = g.K.Key.matching in
    let ok : c.in_ok-is_answered_under.field-0 ≡ true = search (rules, c.if-not-branch.false) in
    all_left (is_answered_under cmp matching x.fabric.now x.told.now x.pending x.rows.now x.face.now) x.asks.now c.loop-row.row-index c.row-item.result (omega arith) c.row-item.is
    (sym c.in_ok-is_answered_under.ensures ∙ ok) c.loop-row.invariant
