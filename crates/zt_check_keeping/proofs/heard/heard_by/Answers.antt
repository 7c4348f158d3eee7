use Rattle.std.proofs.Common.{◌++◌, arith, refl}
use Rattle.zt_check_keeping.specs.Heard.{heard_by}
use Rattle.zt_check_fabric.proofs.Gathered.{gather_all, gather_more}
use Rattle.zt_check_keeping.proofs.Gathering.{sent_first, sent_one}
use Rattle.zt_check_keeping.proofs.heard.heard_by.Goals as goal

pub loop-sent-preserved : goal.loop-sent-preserved
loop-sent-preserved g c =
    let x = c.args in
    gather_more (heard_by x.fabric.now) (sent_first x.fabric.now) x.sents.now c.loop-sent.sent-index c.sent-item.result c.loop-sent.tokens.items c.add_sent.new.tokens.items
    (heard_by x.fabric.now x.sents.now) (omega arith) c.sent-item.is c.loop-sent.invariant
    (sent_one x.fabric.now c.sent-item.result c.loop-sent.tokens.items c.add_sent.new.tokens.items c.in_ok-add_sent.ensures)

pub returns : goal.returns
returns g c =
    let x = c.args in
    gather_all (heard_by x.fabric.now) refl x.sents.now c.loop-sent.sent-index c.loop-sent.tokens.items (heard_by x.fabric.now x.sents.now) (omega arith) c.loop-sent.invariant
