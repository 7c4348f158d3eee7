use Rattle.std.proofs.Common.{◌≡◌, ap, subst, sym, ◌∙◌}
use Rattle.zt_theorem_soundness.specs.Sound.{IsSound}
use Rattle.zt_gateway.specs.Running.{Running}
use Rattle.zt_gateway.proofs.gateway.plan.Goals as goal

pub invariant_of-result : goal.invariant_of-result
invariant_of-result g c =
    let same : c.of-before.result.value.waiting ≡ c.gateway.inside.outbox.items =
    ap (λ (running : Running g.row.K.Denot). running.waiting) (c.of-before.ensures ∙ sym c.gateway.view_is)
    in
    record {
      sound = c.in_ok-state.ensures.sound;
      placed = rw c.as_slice.ensures.value at c.in-Ok.ensures;
      empty = c.in-Ok-room_for.ensures.empty;
      fits = rw same c.in-Ok-room_for.ensures.fits;
    }

pub returns-clause-outcome : goal.returns-clause-outcome
returns-clause-outcome g c = rw (← c.gateway.view_is) c.in_ok-state.ensures.outcome

pub invariant_of-gateway-in_default : goal.invariant_of-gateway-in_default
invariant_of-gateway-in_default g c = subst (IsSound g.K.Ord.cmp g.K.Key.matching) (sym c.in_ok-state.ensures.same) c.gateway.invariant

pub invariant_of-gateway-in_default-room_for : goal.invariant_of-gateway-in_default-room_for
invariant_of-gateway-in_default-room_for g c = subst (IsSound g.K.Ord.cmp g.K.Key.matching) (sym c.in_ok-state.ensures.same) c.gateway.invariant

pub invariant_of-gateway-2 : goal.invariant_of-gateway-2
invariant_of-gateway-2 g c = subst (IsSound g.K.Ord.cmp g.K.Key.matching) (sym c.in_ok-state.ensures.same) c.gateway.invariant
