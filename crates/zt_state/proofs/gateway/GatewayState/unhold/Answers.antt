use Rattle.std.proofs.Common.{refl}
use Rattle.zt_model.specs.Routing.{unheld}
use Rattle.zt_state.proofs.Kept.{indexed-held}
use Rattle.zt_state.proofs.gateway.GatewayState.unhold.Goals as goal

pub unhold_in-requires : goal.unhold_in-requires
unhold_in-requires g c = c.self.invariant.seekers

pub invariant_of-self : goal.invariant_of-self
invariant_of-self g c =
    let s = c.self.inside in
    let made = c.unhold_in.ensures in
    rw made.faces
    (indexed-held g.K.Ord.cmp g.K.Key.anchored s.zid s.made s.routed s.faces s.live s.seekers c.self.invariant c.args.face (unheld c.args.id) c.unhold_in.new.seekers
    (λ f. record { number = refl; region = refl; live = refl }) (rw made.faces at made.seekers))
