use Rattle.std.proofs.Common.{◌<◌, ◌∙◌, length, arith, subst, sym}
use Rattle.zt_link_queues.proofs.Growing.{IsOut, out_of, ungrown_out, ungrown_there}
use Rattle.zt_link_queues.proofs.queues.drop_last.Goals as goal

pub returns-in-Some : goal.returns-in-Some
returns-in-Some g c before one is grown =
    let qs = c.args.queues.now.items in
    let within : c.in-Some.at < length qs = omega (arith, c.in-Some.ensures.within) in
    ungrown_there qs before one c.in-Some.at c.index_mut-queue.result.now c.drop_last.new.self grown within (is ∙ c.in-Some.ensures.counted) c.index_mut-queue.ensures.value c.drop_last.ensures

pub returns-in_default : goal.returns-in_default
returns-in_default g c before one is grown =
    let qs = c.args.queues.now.items in
    let out = out_of c.args.face c.len.result (length qs) (omega arith) c.in_default.ensures.none in
    ungrown_out qs before one grown (subst (λ k. IsOut k 1 (length qs)) (sym is) out)
