use Rattle.std.proofs.Common.{◌++◌, arith, refl}
use Rattle.zt_check_asks.specs.Answering.{answers_from}
use Rattle.zt_check_fabric.proofs.Gathered.{gather_all, gather_more}
use Rattle.zt_check_asks.proofs.Walked.{from_first, from_none}
use Rattle.zt_check_asks.proofs.asks.answers_in.Goals as goal

pub loop-sent-preserved : goal.loop-sent-preserved
loop-sent-preserved g c =
    let x = c.args in
    gather_more (answers_from x.id x.number) (from_first x.id x.number) x.sents.now c.loop-sent.sent-index c.sent-item.result c.loop-sent.answers.items c.add_sent.new.answers.items
    (answers_from x.id x.number x.sents.now) (omega arith) c.sent-item.is c.loop-sent.invariant c.in_ok-add_sent.ensures

pub returns : goal.returns
returns g c =
    let x = c.args in
    gather_all (answers_from x.id x.number) (from_none g.row.K.Denot x.id x.number) x.sents.now c.loop-sent.sent-index c.loop-sent.answers.items (answers_from x.id x.number x.sents.now) (omega arith) c.loop-sent.invariant
