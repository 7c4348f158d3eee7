use Rattle.zt_state.proofs.Kept.{indexed-quiet}
use Rattle.zt_state.proofs.gateway.GatewayState.change_face.Goals as goal

pub invariant_of-self : goal.invariant_of-self
invariant_of-self g c =
    let s = c.self.inside in
    rw c.change.ensures (indexed-quiet g.K.Ord.cmp g.K.Key.anchored s.zid s.made s.routed s.faces s.live s.seekers c.self.invariant c.args.number (g.C.FaceChange.changed c.args.change.now) (g.met.C.QuietChange.keeps_live c.args.change.now))
