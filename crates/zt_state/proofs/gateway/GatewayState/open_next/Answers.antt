use Rattle.std.proofs.Common.{◌≡◌, ◌+◌}
use Rattle.zt_state.proofs.Kept.{indexed-none, indexed-opened}
use Rattle.zt_state.proofs.gateway.GatewayState.open_next.Goals as goal

pub open_in-requires-clause-seekers : goal.open_in-requires-clause-seekers
open_in-requires-clause-seekers g c = c.self.invariant.seekers

pub invariant_of-self : goal.invariant_of-self
invariant_of-self g c =
    let s = c.self.inside in
    let made = c.in-Ok.ensures in
    let next : c.args.face.number ≡ s.made + 1 = rw (← c.self.view_is) at c.requires.next in
    rw made.faces
    (indexed-opened g.K.Ord.cmp g.K.Key.anchored s.zid s.made s.routed s.faces s.live s.seekers c.self.invariant c.args.face c.open_in.new.seekers next c.requires.declares (rw made.faces at made.seekers))

pub invariant_of-self-in-Err : goal.invariant_of-self-in-Err
invariant_of-self-in-Err g c =
    rw (c.empty.ensures.faces, c.empty.ensures.routed, c.empty.ensures.live, c.empty.ensures.seekers) (indexed-none g.K.Ord.cmp g.K.Key.anchored c.self.inside.zid c.self.inside.made)
