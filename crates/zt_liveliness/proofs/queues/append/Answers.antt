use Rattle.std.proofs.Common.{◌++◌, ap, ◌∙◌}
use Rattle.zt_liveliness.proofs.queues.append.Goals as goal

pub returns : goal.returns
returns g c = c.in-Ok.ensures.items ∙ ap (λ items. items ++ c.args.sent.items) c.drop_messages.ensures.items
