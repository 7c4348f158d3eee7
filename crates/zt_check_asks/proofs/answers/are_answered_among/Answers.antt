use Rattle.std.proofs.Common.{◌≡◌, true, false, rules, sym, ◌∙◌, arith}
use Rattle.zt_check_asks.specs.Answering.{is_answered_at}
use Rattle.zt_check_asks.proofs.Sought.{of_part_of_asks}
use Rattle.zt_check_asks.proofs.Walked.{all_left, none_left}
use Rattle.zt_check_asks.proofs.answers.are_answered_among.Goals as goal

pub loop-row-init : goal.loop-row-init
loop-row-init g c =
    let x = c.args in
    of_part_of_asks g.K.Ord.cmp g.K.Key.matching x.fabric.now x.told.now x.gateway x.rows.now x.id x.face.now c.asks_of-row-items.result.now c.asks_of-row-items.ensures

pub returns-then-not-branch : goal.returns-then-not-branch
returns-then-not-branch g c =
    let x = c.args in
    let cmp = g.K.Ord.cmp in
    let matching = g.K.Key.matching in
    let part = of_part_of_asks cmp matching x.fabric.now x.told.now x.gateway x.rows.now x.id x.face.now c.asks_of-row-items.result.now c.asks_of-row-items.ensures in
    let bad : c.in_ok-is_answered_at.field-0 ≡ false = search (rules, c.if-not-branch.true) in
    none_left (is_answered_at cmp matching x.fabric.now x.told.now x.gateway x.rows.now x.face.now x.id) c.asks_of-row-items.result.now c.loop-row.row-index c.row-item.result (omega arith) c.row-item.is
    (sym c.in_ok-is_answered_at.ensures ∙ bad) (c.loop-row.invariant ∙ sym part) ∙ part

pub loop-row-preserved : goal.loop-row-preserved
loop-row-preserved g c =
    let x = c.args in
    let cmp = g.K.Ord.cmp in
    let matching = g.K.Key.matching in
    let part = of_part_of_asks cmp matching x.fabric.now x.told.now x.gateway x.rows.now x.id x.face.now c.asks_of-row-items.result.now c.asks_of-row-items.ensures in
    let ok : c.in_ok-is_answered_at.field-0 ≡ true = search (rules, c.if-not-branch.false) in
    all_left (is_answered_at cmp matching x.fabric.now x.told.now x.gateway x.rows.now x.face.now x.id) c.asks_of-row-items.result.now c.loop-row.row-index c.row-item.result (omega arith) c.row-item.is
    (sym c.in_ok-is_answered_at.ensures ∙ ok) (c.loop-row.invariant ∙ sym part) ∙ part
