use Rattle.std.proofs.Common.{◌≡◌, true, false, rules, sym, ◌∙◌, arith}
use Rattle.zt_check_asks.proofs.Walked.{all_left, none_left}
use Rattle.zt_check_finals.specs.Finishing.{is_finished_under}
use Rattle.zt_check_finals.proofs.finals.all_finished_under.Goals as goal

pub returns-then-not-is_finished_under : goal.returns-then-not-is_finished_under
returns-then-not-is_finished_under g c =
    let x = c.args in
    let bad : c.is_finished_under.result ≡ false = search (rules, c.if-not-is_finished_under.true) in
    none_left (is_finished_under x.fabric.now x.finalised x.sents.now x.ended.now x.rows.now x.face.now) x.asks.now c.loop-row.row-index c.row-item.result (omega arith) c.row-item.is (sym c.is_finished_under.ensures ∙ bad) c.loop-row.invariant

pub loop-row-preserved : goal.loop-row-preserved
loop-row-preserved g c =
    let x = c.args in
    let ok : c.is_finished_under.result ≡ true = search (rules, c.if-not-is_finished_under.false) in
    all_left (is_finished_under x.fabric.now x.finalised x.sents.now x.ended.now x.rows.now x.face.now) x.asks.now c.loop-row.row-index c.row-item.result (omega arith) c.row-item.is (sym c.is_finished_under.ensures ∙ ok) c.loop-row.invariant
