use Rattle.std.proofs.Common.{◌++◌, arith}
use Rattle.zt_model.specs.Fabric.{printed_for}
use Rattle.zt_check_fabric.proofs.Gathered.{gather_all, gather_more, printed_first, printed_none}
use Rattle.zt_check_fabric.proofs.queues.add_all.Goals as goal

pub loop-sent-preserved : goal.loop-sent-preserved
loop-sent-preserved g c =
    gather_more (printed_for c.args.face) (printed_first c.args.face) c.args.sents.now c.loop-sent.sent-index c.sent-item.result c.loop-sent.messages.items c.add_one.new.messages.items
    (c.args.messages.now.items ++ printed_for c.args.face c.args.sents.now) (omega arith) c.sent-item.is c.loop-sent.invariant c.in_ok-add_one.ensures

pub returns : goal.returns
returns g c =
    gather_all (printed_for c.args.face) (printed_none c.args.face) c.args.sents.now c.loop-sent.sent-index c.loop-sent.messages.items
    (c.args.messages.now.items ++ printed_for c.args.face c.args.sents.now) (omega arith) c.loop-sent.invariant
