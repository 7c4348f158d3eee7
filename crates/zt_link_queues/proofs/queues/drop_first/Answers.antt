use Rattle.std.proofs.Common.{◌<◌, length, arith, sym}
use Rattle.zt_link_queues.proofs.Growing.{out_of, taken_out, taken_there}
use Rattle.zt_link_queues.proofs.queues.drop_first.Goals as goal

pub returns-in-Some-clause-waits : goal.returns-in-Some-clause-waits
returns-in-Some-clause-waits g c =
    let qs = c.args.queues.now.items in
    let within : c.in-Some.at < length qs = omega (arith, c.in-Some.ensures.within) in
    taken_there c.args.face c.in-Some.at qs c.index_mut-queue.result.now c.drop_first.new.self within c.in-Some.ensures.counted c.index_mut-queue.ensures.value c.drop_first.ensures

pub returns-in_default-clause-waits : goal.returns-in_default-clause-waits
returns-in_default-clause-waits g c =
    let qs = c.args.queues.now.items in
    sym (taken_out c.args.face 1 qs (out_of c.args.face c.len.result (length qs) (omega arith) c.in_default.ensures.none))
