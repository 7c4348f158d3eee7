use Rattle.std.proofs.Common.{rules, map-id}
use Rattle.std.proofs.lemmas.Iterator.Consumers.{YieldsList-end}
use Rattle.std.proofs.lemmas.Iterator.Adapters.{YieldsList-from_vec}
use Rattle.zt_dealing.proofs.sharing.parted.Goals as goal

pub returns-clause-passes : goal.returns-clause-passes
returns-clause-passes g c =
    let end = YieldsList-end (YieldsList-from_vec {s = c.into_iter-done-iterator.result} c.args.all.items (search rules) (search rules))
    c.loop-done.yielded c.loop-done.done-iterator c.loop-done.yielded_by c.next.result c.next.new.self c.in-None.is c.next.ensures.steps in
    rw (← end.0, map-id) c.loop-done.invariant.passes

pub returns-clause-queues : goal.returns-clause-queues
returns-clause-queues g c =
    let end = YieldsList-end (YieldsList-from_vec {s = c.into_iter-done-iterator.result} c.args.all.items (search rules) (search rules))
    c.loop-done.yielded c.loop-done.done-iterator c.loop-done.yielded_by c.next.result c.next.new.self c.in-None.is c.next.ensures.steps in
    rw (← end.0, map-id) c.loop-done.invariant.queues
