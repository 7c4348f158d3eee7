use Rattle.std.proofs.Common.{◌<◌, false, length, arith, ap}
use Rattle.zt_model.specs.Places.{Link}
use Rattle.zt_link_queues.proofs.Members.{set_at}
use Rattle.zt_link_queues.proofs.links.shut_in.Goals as goal

pub returns : goal.returns
returns c =
    let within : c.args.at < length c.args.links.now.items = omega arith in
    set_at (λ (l : Link). record l { is_open = false }) c.args.at c.args.links.now.items c.index_mut-link.result.now _ within c.index_mut-link.ensures.value
    (ap (λ (l : Link). record l { is_open = false }) c.link.view_is)
