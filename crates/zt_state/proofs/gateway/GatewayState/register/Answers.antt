use Rattle.std.proofs.Common.{refl}
use Rattle.zt_model.specs.Telling.{registered}
use Rattle.zt_state.proofs.Kept.{indexed-changed, indexed-none, registered-order}
use Rattle.zt_state.proofs.gateway.GatewayState.register.Goals as goal

pub register_in-requires : goal.register_in-requires
register_in-requires g c = c.self.invariant.in_order

pub invariant_of-self : goal.invariant_of-self
invariant_of-self g c =
    let s = c.self.inside in
    let change = registered c.args.id c.args.expr.now in
    let made = c.in-Ok.ensures in
    rw made.faces (indexed-changed g.K.Ord.cmp g.K.Key.anchored s.zid s.made s.routed s.faces s.live s.seekers c.self.invariant c.args.face change c.register_in.new.live (λ f. refl) (λ f. refl) (λ f. refl) (λ f. refl) (registered-order c.args.id c.args.expr.now) (rw made.faces at made.counts))

pub invariant_of-self-in-Err : goal.invariant_of-self-in-Err
invariant_of-self-in-Err g c =
    rw (c.empty.ensures.faces, c.empty.ensures.routed, c.empty.ensures.live, c.empty.ensures.seekers) (indexed-none g.K.Ord.cmp g.K.Key.anchored c.self.inside.zid c.self.inside.made)
