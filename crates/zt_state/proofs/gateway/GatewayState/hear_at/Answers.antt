use Rattle.zt_model.specs.Hearing.{heard}
use Rattle.zt_state.specs.Keeps.{heard-keeps}
use Rattle.zt_state.proofs.Kept.{indexed-held, indexed-none}
use Rattle.zt_state.proofs.gateway.GatewayState.hear_at.Goals as goal

pub hear_in-requires : goal.hear_in-requires
hear_in-requires g c = c.self.invariant.seekers

pub invariant_of-self : goal.invariant_of-self
invariant_of-self g c =
    let s = c.self.inside in
    let m = c.args.message.now in
    let made = c.in-Ok.ensures in
    rw made.faces
    (indexed-held g.K.Ord.cmp g.K.Key.anchored s.zid s.made s.routed s.faces s.live s.seekers c.self.invariant c.args.face (heard g.K.Ord.cmp s.moment m) c.hear_in.new.seekers
    (heard-keeps g.K.Ord.cmp s.moment m) (rw made.faces at made.seekers))

pub invariant_of-self-in-Err : goal.invariant_of-self-in-Err
invariant_of-self-in-Err g c =
    rw (c.empty.ensures.faces, c.empty.ensures.routed, c.empty.ensures.live, c.empty.ensures.seekers) (indexed-none g.K.Ord.cmp g.K.Key.anchored c.self.inside.zid c.self.inside.made)
