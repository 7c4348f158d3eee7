use Rattle.zt_state.proofs.Kept.{indexed-none, indexed-routed}
use Rattle.zt_state.proofs.gateway.GatewayState.add_routed.Goals as goal

pub invariant_of-self : goal.invariant_of-self
invariant_of-self g c =
    let s = c.self.inside in
    indexed-routed g.K.Ord.cmp g.K.Key.anchored s.zid s.made s.routed s.faces s.live s.seekers c.self.invariant c.add_row.new.routed c.add_row.new.live c.in-Ok.ensures.counts

pub invariant_of-self-in-Err : goal.invariant_of-self-in-Err
invariant_of-self-in-Err g c =
    rw (c.empty.ensures.faces, c.empty.ensures.routed, c.empty.ensures.live, c.empty.ensures.seekers) (indexed-none g.K.Ord.cmp g.K.Key.anchored c.self.inside.zid c.self.inside.made)
