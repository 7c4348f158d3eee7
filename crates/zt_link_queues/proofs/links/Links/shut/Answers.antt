use Rattle.std.proofs.Common.{◌+◌}
use Rattle.zt_link_queues.proofs.Ends.{rise_shut}
use Rattle.zt_link_queues.proofs.links.Links.shut.Goals as goal

pub invariant_of-self : goal.invariant_of-self
invariant_of-self c = rw c.shut_in.ensures (rise_shut (c.args.at + 1) 0 c.self.inside.links.items c.self.invariant)
