use Rattle.std.proofs.Common.{refl}
use Rattle.zt_model.specs.Telling.{unregistered}
use Rattle.zt_state.proofs.Kept.{indexed-changed, unregistered-order}
use Rattle.zt_state.proofs.gateway.GatewayState.unregister.Goals as goal

pub unregister_in-requires : goal.unregister_in-requires
unregister_in-requires g c = c.self.invariant.in_order

pub invariant_of-self : goal.invariant_of-self
invariant_of-self g c =
    let s = c.self.inside in
    let made = c.unregister_in.ensures in
    rw made.faces (indexed-changed g.K.Ord.cmp g.K.Key.anchored s.zid s.made s.routed s.faces s.live s.seekers c.self.invariant c.args.face (unregistered c.args.id) c.unregister_in.new.live (λ f. refl) (λ f. refl) (λ f. refl) (λ f. refl) (unregistered-order c.args.id) (rw made.faces at made.counts))
