use Rattle.std.proofs.Common.{List, ◌+◌, ◌-◌, ◌≤◌, true, length, take, ap, subst, sym, arith, ◌∙◌}
use Rattle.zt_model.specs.Places.{Fabric, Link}
use Rattle.zt_link_queues.specs.Found.{AreBelow}
use Rattle.zt_fabric_state.proofs.Carried.{on_err, on_ok}
use Rattle.zt_fabric_state.proofs.Joints.{links_pushed}
use Rattle.zt_fabric_state.proofs.Placed.{fabric_of, front}
use Rattle.zt_fabric_state.proofs.state.FabricState.push_link.Goals as goal

pub push-requires-clause-below : goal.push-requires-clause-below
push-requires-clause-below g c = subst (λ (s : Fabric _). AreBelow c.args.one s.links) (sym c.self.view_is) c.requires.below

pub invariant_of-self : goal.invariant_of-self
invariant_of-self g c =
    let i = c.self.inside in
    let placed : c.args.two ≤ length i.places = subst (λ (s : Fabric _). c.args.two ≤ length s.faces) (sym c.self.view_is) c.requires.placed in
    record {
      beside = c.self.invariant.beside;
      placed = links_pushed c.push.result (length i.places + 1) i.links c.push.new.self (record { one = c.args.one; two = c.args.two; is_open = true }) c.self.invariant.placed (omega (arith, placed)) c.push.ensures.ok c.push.ensures.err;
    }

pub returns-clause-ok : goal.returns-clause-ok
returns-clause-ok g c =
    let i = c.self.inside in
    rw (← c.self.view_is) (on_ok c.push.result _ _ (λ more. ap (λ (ls : List Link). fabric_of i.gateways.items i.places ls i.queues) more) c.push.ensures.ok)

pub returns-clause-back : goal.returns-clause-back
returns-clause-back g c =
    let i = c.self.inside in
    rw (← c.self.view_is)
    (on_ok c.push.result _ _
    (λ more. ap (λ (ls : List Link). fabric_of i.gateways.items i.places (take (length ls - 1) ls) i.queues) more ∙ ap (λ (ls : List Link). fabric_of i.gateways.items i.places ls i.queues) (front i.links _))
    c.push.ensures.ok)

pub returns-clause-err : goal.returns-clause-err
returns-clause-err g c =
    let i = c.self.inside in
    rw (← c.self.view_is) (on_err c.push.result _ _ (λ same. ap (λ (ls : List Link). fabric_of i.gateways.items i.places ls i.queues) same) c.push.ensures.err)
