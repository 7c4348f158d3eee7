use Rattle.std.proofs.Common.{◌≡◌, true, false, rules, sym, ◌∙◌, arith}
use Rattle.zt_check_asks.proofs.Walked.{all_left, none_left}
use Rattle.zt_check_finals.specs.Finishing.{is_finished_at}
use Rattle.zt_check_finals.proofs.Sought.{of_part_of_asks}
use Rattle.zt_check_finals.proofs.finals.are_finished_among.Goals as goal

pub loop-row-init : goal.loop-row-init
loop-row-init g c =
    let x = c.args in
    of_part_of_asks x.fabric.now x.finalised x.sents.now x.gateway x.rows.now x.id x.face.now c.asks_of-row-items.result.now c.asks_of-row-items.ensures

pub returns-then-not-is_finished_at : goal.returns-then-not-is_finished_at
returns-then-not-is_finished_at g c =
    let x = c.args in
    let part = of_part_of_asks x.fabric.now x.finalised x.sents.now x.gateway x.rows.now x.id x.face.now c.asks_of-row-items.result.now c.asks_of-row-items.ensures in
    let bad : c.is_finished_at.result ≡ false = search (rules, c.if-not-is_finished_at.true) in
    none_left (is_finished_at x.fabric.now x.finalised x.sents.now x.gateway x.rows.now x.face.now x.id) c.asks_of-row-items.result.now c.loop-row.row-index c.row-item.result (omega arith) c.row-item.is
    (sym c.is_finished_at.ensures ∙ bad) (c.loop-row.invariant ∙ sym part) ∙ part

pub loop-row-preserved : goal.loop-row-preserved
loop-row-preserved g c =
    let x = c.args in
    let part = of_part_of_asks x.fabric.now x.finalised x.sents.now x.gateway x.rows.now x.id x.face.now c.asks_of-row-items.result.now c.asks_of-row-items.ensures in
    let ok : c.is_finished_at.result ≡ true = search (rules, c.if-not-is_finished_at.false) in
    all_left (is_finished_at x.fabric.now x.finalised x.sents.now x.gateway x.rows.now x.face.now x.id) c.asks_of-row-items.result.now c.loop-row.row-index c.row-item.result (omega arith) c.row-item.is
    (sym c.is_finished_at.ensures ∙ ok) (c.loop-row.invariant ∙ sym part) ∙ part
