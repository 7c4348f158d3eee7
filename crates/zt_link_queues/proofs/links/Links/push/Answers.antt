use Rattle.std.proofs.Common.{arith}
use Rattle.zt_link_queues.specs.Found.{AreBelow}
use Rattle.zt_link_queues.proofs.Ends.{rise_pushed}
use Rattle.zt_link_queues.proofs.links.Links.push.Goals as goal

pub invariant_of-self-2 : goal.invariant_of-self-2
invariant_of-self-2 c =
    let below : AreBelow c.args.one c.self.inside.links.items = rw c.self.view_is c.requires.below in
    rw c.in_ok-push.ensures.items (rise_pushed 0 c.args.one c.args.two c.self.inside.links.items c.self.invariant (omega arith) below c.requires.rising)
