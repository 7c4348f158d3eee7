use Rattle.std.proofs.Common.{◌∙◌, ap, subst, sym, length}
use Rattle.zt_model.specs.Places.{Fabric}
use Rattle.zt_link_queues.specs.Found.{AreBelow}
use Rattle.zt_fabric_state.proofs.Joints.{placed_popped}
use Rattle.zt_fabric_state.proofs.Placed.{place_popped, popped_as_many}
use Rattle.zt_fabric_state.proofs.state.FabricState.pop_place.Goals as goal

pub invariant_of-self : goal.invariant_of-self
invariant_of-self g c =
    let i = c.self.inside in
    let free : AreBelow (length i.places) i.links = subst (λ (s : Fabric _). AreBelow (length s.faces) s.links) (sym c.self.view_is) c.requires in
    record {
      beside = ap length c.pop_both.ensures.queues ∙ popped_as_many i.queues i.places c.self.invariant.beside ∙ sym (ap length c.pop_both.ensures.places);
      placed = placed_popped i.places c.pop_both.new.places i.links free c.pop_both.ensures.places;
    }

pub returns : goal.returns
returns g c =
    let i = c.self.inside in
    rw (← c.self.view_is)
    (place_popped i.gateways.items i.places c.pop_both.new.places i.links i.queues c.pop_both.new.queues c.self.invariant.beside c.pop_both.ensures.places c.pop_both.ensures.queues)
