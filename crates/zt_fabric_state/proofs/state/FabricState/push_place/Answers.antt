use Rattle.zt_fabric_state.proofs.Carried.{on_ok}
use Rattle.zt_fabric_state.proofs.Joints.{free_pushed, placed_pushed}
use Rattle.zt_fabric_state.proofs.Placed.{as_many, err_two, place_pushed, ok_two, place_back, places_kept}
use Rattle.zt_fabric_state.proofs.state.FabricState.push_place.Goals as goal

pub invariant_of-self : goal.invariant_of-self
invariant_of-self g c =
    let i = c.self.inside in
    let e = c.push_both.ensures in
    let r = c.push_both.result in
    record {
      beside = as_many r i.places c.push_both.new.places _ i.queues c.push_both.new.queues _ c.self.invariant.beside e.places e.queues e.places_err e.queues_err;
      placed = placed_pushed r i.places c.push_both.new.places _ i.links c.self.invariant.placed e.places e.places_err;
    }

pub returns-clause-ok : goal.returns-clause-ok
returns-clause-ok g c =
    let i = c.self.inside in
    rw (← c.self.view_is)
    (ok_two c.push_both.result _ _ _
    (λ places queues. place_pushed i.gateways.items i.places c.push_both.new.places i.links i.queues c.push_both.new.queues _ places queues)
    c.push_both.ensures.places c.push_both.ensures.queues)

pub returns-clause-free : goal.returns-clause-free
returns-clause-free g c =
    on_ok c.push_both.result _ _ (λ places. free_pushed c.self.inside.places c.push_both.new.places _ c.self.inside.links c.self.invariant.placed places) c.push_both.ensures.places

pub returns-clause-back : goal.returns-clause-back
returns-clause-back g c =
    let i = c.self.inside in
    rw (← c.self.view_is)
    (ok_two c.push_both.result _ _ _
    (λ places queues. place_back i.gateways.items i.places c.push_both.new.places i.links i.queues c.push_both.new.queues _ _ c.self.invariant.beside places queues)
    c.push_both.ensures.places c.push_both.ensures.queues)

pub returns-clause-err : goal.returns-clause-err
returns-clause-err g c =
    let i = c.self.inside in
    rw (← c.self.view_is)
    (err_two c.push_both.result _ _ _
    (λ places queues. places_kept i.gateways.items i.places c.push_both.new.places i.links i.queues c.push_both.new.queues places queues)
    c.push_both.ensures.places_err c.push_both.ensures.queues_err)
