use Rattle.zt_state.proofs.Kept.{indexed-closed}
use Rattle.zt_state.proofs.gateway.GatewayState.close.Goals as goal

pub close_in-requires : goal.close_in-requires
close_in-requires g c = c.self.invariant.seekers

pub invariant_of-self : goal.invariant_of-self
invariant_of-self g c =
    let s = c.self.inside in
    let made = c.close_in.ensures in
    rw made.faces (indexed-closed g.K.Ord.cmp g.K.Key.anchored s.zid s.made s.routed s.faces s.live s.seekers c.self.invariant c.args.face c.close_in.new.live c.close_in.new.seekers (rw made.faces at made.counts) (rw made.faces at made.seekers))
