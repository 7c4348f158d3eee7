use Rattle.std.proofs.Common.{ap, ◌∙◌}
use Rattle.zt_liveliness.specs.Lively.{Close, booked}
use Rattle.zt_liveliness.proofs.liveliness.Liveliness.close.Goals as goal

pub returns-in-Ok-clause-done : goal.returns-in-Ok-clause-done
returns-in-Ok-clause-done g c = c.drop_face.ensures c.args.self.now ∙ ap (booked (Close c.args.face) c.args.self.now) c.in-Ok.ensures.done
