use Rattle.std.proofs.Common.{refl}
use Rattle.zt_model.specs.Routing.{asked_as}
use Rattle.zt_state.proofs.Kept.{indexed-held, indexed-none}
use Rattle.zt_state.proofs.gateway.GatewayState.ask.Goals as goal

pub ask_in-requires : goal.ask_in-requires
ask_in-requires g c = c.self.invariant.seekers

pub invariant_of-self : goal.invariant_of-self
invariant_of-self g c =
    let s = c.self.inside in
    let made = c.in-Ok.ensures in
    rw made.faces
    (indexed-held g.K.Ord.cmp g.K.Key.anchored s.zid s.made s.routed s.faces s.live s.seekers c.self.invariant c.args.face (asked_as c.args.pendings.now c.args.id c.args.interest.now) c.ask_in.new.seekers
    (λ f. record { number = refl; region = refl; live = refl }) (rw made.faces at made.seekers))

pub invariant_of-self-in-Err : goal.invariant_of-self-in-Err
invariant_of-self-in-Err g c =
    rw (c.empty.ensures.faces, c.empty.ensures.routed, c.empty.ensures.live, c.empty.ensures.seekers) (indexed-none g.K.Ord.cmp g.K.Key.anchored c.self.inside.zid c.self.inside.made)
