use Rattle.std.proofs.Common.{◌<◌, length, arith, sym}
use Rattle.zt_link_queues.proofs.Growing.{dropped_out, dropped_there, out_of}
use Rattle.zt_link_queues.proofs.queues.close.Goals as goal

pub returns-in-Some-clause-waits : goal.returns-in-Some-clause-waits
returns-in-Some-clause-waits g c =
    let qs = c.args.queues.now.items in
    let within : c.in-Some.at < length qs = omega (arith, c.in-Some.ensures.within) in
    dropped_there c.args.face c.in-Some.at qs c.none.result within c.in-Some.ensures.counted c.none.ensures

pub returns-in_default-clause-waits : goal.returns-in_default-clause-waits
returns-in_default-clause-waits g c =
    let qs = c.args.queues.now.items in
    sym (dropped_out c.args.face 1 qs (out_of c.args.face c.len.result (length qs) (omega arith) c.in_default.ensures.none))
