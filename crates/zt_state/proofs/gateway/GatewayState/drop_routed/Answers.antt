use Rattle.zt_state.proofs.Kept.{indexed-routed}
use Rattle.zt_state.proofs.gateway.GatewayState.drop_routed.Goals as goal

pub invariant_of-self : goal.invariant_of-self
invariant_of-self g c =
    let s = c.self.inside in
    indexed-routed g.K.Ord.cmp g.K.Key.anchored s.zid s.made s.routed s.faces s.live s.seekers c.self.invariant c.drop_row.new.routed c.drop_row.new.live c.drop_row.ensures.counts
