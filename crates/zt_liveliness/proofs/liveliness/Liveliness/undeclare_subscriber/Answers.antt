use Rattle.std.proofs.Common.{ap, ◌∙◌}
use Rattle.zt_liveliness.specs.Lively.{UndeclareSubscriber, booked}
use Rattle.zt_liveliness.proofs.liveliness.Liveliness.undeclare_subscriber.Goals as goal

pub returns-in-Ok-clause-done : goal.returns-in-Ok-clause-done
returns-in-Ok-clause-done g c = c.drop_subscriber.ensures c.args.self.now ∙ ap (booked (UndeclareSubscriber c.args.session c.args.subscriber) c.args.self.now) c.in-Ok.ensures.done
