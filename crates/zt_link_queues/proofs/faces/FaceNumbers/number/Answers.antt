use Rattle.std.proofs.Common.{sym}
use Rattle.zt_link_queues.proofs.Pairs.{none_there, number_there}
use Rattle.zt_link_queues.proofs.faces.FaceNumbers.number.Goals as goal

pub returns-in-Ok : goal.returns-in-Ok
returns-in-Ok c = rw (← c.self.view_is) (number_there c.args.face c.in-Ok.place c.self.inside.pairs.now (0, 0) (sym c.in-Ok.ensures.place))

pub returns-in-Err : goal.returns-in-Err
returns-in-Err c = rw (← c.self.view_is) (none_there c.args.face c.in-Err.field-0 c.self.inside.pairs.now c.self.invariant (sym c.in-Err.ensures.place))
