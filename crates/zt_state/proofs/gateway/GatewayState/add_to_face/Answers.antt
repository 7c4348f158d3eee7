use Rattle.zt_state.proofs.Kept.{indexed-none, indexed-quiet}
use Rattle.zt_state.proofs.gateway.GatewayState.add_to_face.Goals as goal

pub invariant_of-self : goal.invariant_of-self
invariant_of-self g c =
    let s = c.self.inside in
    rw c.in-Ok.ensures.ok (indexed-quiet g.K.Ord.cmp g.K.Key.anchored s.zid s.made s.routed s.faces s.live s.seekers c.self.invariant c.args.number (g.C.FaceAddition.added c.args.addition.now) (g.met.C.QuietAddition.keeps_live c.args.addition.now))

pub invariant_of-self-in-Err : goal.invariant_of-self-in-Err
invariant_of-self-in-Err g c =
    rw (c.empty.ensures.faces, c.empty.ensures.routed, c.empty.ensures.live, c.empty.ensures.seekers) (indexed-none g.K.Ord.cmp g.K.Key.anchored c.self.inside.zid c.self.inside.made)
