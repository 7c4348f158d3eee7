use Rattle.zt_check_trace.proofs.MessageLemmas.{order_breaks, order_stands}
use Rattle.zt_check_trace.proofs.messages.stand_in_order.Goals as goal

pub returns-then-sent-face : goal.returns-then-sent-face
returns-then-sent-face g c =
    order_breaks c.args.sents.now c.loop-sent.face c.loop-sent.sent-index c.sent-item.result c.loop-sent.invariant c.loop-sent-test.true c.sent-item.is c.if-sent-face.true

pub returns : goal.returns
returns g c = order_stands c.args.sents.now c.loop-sent.face c.loop-sent.sent-index c.loop-sent.invariant c.loop-sent-test.false
