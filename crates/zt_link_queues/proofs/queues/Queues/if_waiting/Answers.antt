use Rattle.zt_link_queues.proofs.Growing.{taken_where_none, taken_where_some}
use Rattle.zt_link_queues.proofs.queues.Queues.if_waiting.Goals as goal

pub returns-in-None-first : goal.returns-in-None-first
returns-in-None-first g c = taken_where_none c.args.taken c.in-Some.face c.args.self.now c.in-Some.is c.in-None-first.ensures

pub returns-in-Some-first : goal.returns-in-Some-first
returns-in-Some-first g c = taken_where_some c.args.taken c.in-Some.face c.args.self.now c.in-Some-first.field-0.now c.in-Some.is c.in-Some-first.ensures
