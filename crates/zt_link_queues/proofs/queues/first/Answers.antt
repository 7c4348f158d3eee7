use Rattle.std.proofs.Common.{◌<◌, ◌∙◌, length, sym, refl}
use Rattle.zt_link_queues.proofs.Growing.{first_out, first_there, out_of}
use Rattle.zt_link_queues.proofs.queues.first.Goals as goal

pub returns-in-None : goal.returns-in-None
returns-in-None g c =
    let qs = c.args.queues.now in
    sym (first_out c.args.face 1 qs (out_of c.args.face (length qs) (length qs) refl c.in-None.ensures.none))

pub returns-in-Some : goal.returns-in-Some
returns-in-Some g c =
    let qs = c.args.queues.now in
    let within : c.in-Some.at < length qs = c.in-Some.ensures.within in
    c.first.ensures ∙ first_there c.args.face c.in-Some.at qs c.index-queues-at.result within c.in-Some.ensures.counted c.index-queues-at.is
