use Rattle.zt_link_queues.proofs.Ends.{rise_taken}
use Rattle.zt_link_queues.proofs.links.Links.pop.Goals as goal

pub invariant_of-self : goal.invariant_of-self
invariant_of-self c = rw c.pop.ensures.rest (rise_taken _ 0 c.self.inside.links.items c.self.invariant)
