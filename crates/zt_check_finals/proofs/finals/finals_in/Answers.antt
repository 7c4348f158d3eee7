use Rattle.std.proofs.Common.{◌+◌, ◌≤◌, arith}
use Rattle.zt_check_finals.proofs.Steps.{at_most_one, next_counted, none_left}
use Rattle.zt_check_finals.proofs.finals.finals_in.Goals as goal

pub loop-sent-preserved : goal.loop-sent-preserved
loop-sent-preserved g c =
    let x = c.args in
    record {
      so_far = next_counted x.id x.number x.sents.now c.loop-sent.sent-index c.loop-sent.count c.sent-item.result (omega arith) c.sent-item.is c.loop-sent.invariant.so_far c.is_final.result c.one_if-count.result c.is_final.ensures c.one_if-count.ensures;
      few = omega (arith, c.loop-sent.invariant.few, at_most_one c.is_final.result c.one_if-count.result c.one_if-count.ensures);
    }

pub returns : goal.returns
returns g c =
    let x = c.args in
    none_left x.id x.number x.sents.now c.loop-sent.sent-index c.loop-sent.count (omega arith) c.loop-sent.invariant.so_far

pub overflow_add-count : goal.overflow_add-count
overflow_add-count g c = omega (arith, c.loop-sent.invariant.few, at_most_one c.is_final.result c.one_if-count.result c.one_if-count.ensures)
