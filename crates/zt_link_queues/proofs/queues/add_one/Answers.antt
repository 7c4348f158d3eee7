use Rattle.std.proofs.Common.{◌<◌, length, sym, arith}
use Rattle.zt_link_queues.proofs.Growing.{grown_out, grown_there, on_ok, out_of}
use Rattle.zt_link_queues.proofs.queues.add_one.Goals as goal

pub returns-in-None-clause-ok : goal.returns-in-None-clause-ok
returns-in-None-clause-ok g c =
    let qs = c.args.queues.now.items in
    sym (grown_out qs c.args.one.now (out_of c.args.one.now.face c.len.result (length qs) (omega arith) c.in-None.ensures.none))

pub returns-in-Some-clause-ok : goal.returns-in-Some-clause-ok
returns-in-Some-clause-ok g c =
    let qs = c.args.queues.now.items in
    let within : c.in-Some.at < length qs = omega (arith, c.in-Some.ensures.within) in
    on_ok c.add.result _ _
    (λ added. grown_there qs c.args.one.now c.in-Some.at c.index_mut-queue.result.now c.add.new.self within c.in-Some.ensures.counted c.index_mut-queue.ensures.value added)
    c.add.ensures.ok
