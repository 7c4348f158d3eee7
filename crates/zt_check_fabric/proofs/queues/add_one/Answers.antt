use Rattle.std.proofs.Common.{[], ◌∷◌, ◌++◌, ap, ◌∙◌}
use Rattle.zt_check_fabric.proofs.Gathered.{printed_other, printed_own}
use Rattle.zt_check_fabric.proofs.queues.add_one.Goals as goal

pub returns-then-face-sent : goal.returns-then-face-sent
returns-then-face-sent g c = printed_other c.args.face c.args.sent.now c.args.messages.now.items c.if-face-sent.true

pub returns : goal.returns
returns g c =
    c.in_ok-push.ensures.items ∙ ap (λ m. c.args.messages.now.items ++ m ∷ []) c.in_ok-copy.ensures
    ∙ printed_own c.args.face c.args.sent.now c.args.messages.now.items c.if-face-sent.false
