use Rattle.std.proofs.Common.{◌++◌, arith, refl}
use Rattle.zt_check_fabric.proofs.Gathered.{gather_all, gather_more}
use Rattle.zt_check_finals.specs.Ending.{unopened_by}
use Rattle.zt_check_finals.proofs.Steps.{unopened_first, unopened_one}
use Rattle.zt_check_finals.proofs.ending.unopened_by.Goals as goal

pub loop-sent-preserved : goal.loop-sent-preserved
loop-sent-preserved g c =
    let x = c.args in
    gather_more (unopened_by x.fabric.now) (unopened_first x.fabric.now) x.sents.now c.loop-sent.sent-index c.sent-item.result c.loop-sent.unopened.items c.add_unopened.new.unopened.items
    (unopened_by x.fabric.now x.sents.now) (omega arith) c.sent-item.is c.loop-sent.invariant
    (unopened_one x.fabric.now c.sent-item.result c.loop-sent.unopened.items c.add_unopened.new.unopened.items c.in_ok-add_unopened.ensures)

pub returns : goal.returns
returns g c =
    let x = c.args in
    gather_all (unopened_by x.fabric.now) refl x.sents.now c.loop-sent.sent-index c.loop-sent.unopened.items (unopened_by x.fabric.now x.sents.now) (omega arith) c.loop-sent.invariant
