use Rattle.std.proofs.Common.{◌++◌, arith}
use Rattle.zt_check_fabric.specs.Made.{pendings_in}
use Rattle.zt_check_fabric.proofs.Gathered.{gather_all, gather_more, pending_first, pending_none}
use Rattle.zt_check_fabric.proofs.pending.add_pendings.Goals as goal

pub loop-sent-preserved : goal.loop-sent-preserved
loop-sent-preserved g c =
    gather_more (pendings_in c.args.face c.args.number) (pending_first c.args.face c.args.number) c.args.sents.now c.loop-sent.sent-index c.sent-item.result c.loop-sent.pendings.items c.add_pending.new.pendings.items
    (c.args.pendings.now.items ++ pendings_in c.args.face c.args.number c.args.sents.now) (omega arith) c.sent-item.is c.loop-sent.invariant c.in_ok-add_pending.ensures

pub returns : goal.returns
returns g c =
    gather_all (pendings_in c.args.face c.args.number) (pending_none g.row.K.Denot c.args.face c.args.number) c.args.sents.now c.loop-sent.sent-index c.loop-sent.pendings.items
    (c.args.pendings.now.items ++ pendings_in c.args.face c.args.number c.args.sents.now) (omega arith) c.loop-sent.invariant
