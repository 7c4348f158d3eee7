use Rattle.std.proofs.Common.{refl, ◌∙◌}
use Rattle.std.proofs.lemmas.Result.{on_err_weaker}
use Rattle.zt_fabric_state.proofs.Carried.{on_ok}
use Rattle.zt_fabric_state.proofs.Placed.{turned_waits}
use Rattle.zt_fabric_state.proofs.state.FabricState.turn_waiting.Goals as goal

pub invariant_of-self : goal.invariant_of-self
invariant_of-self g c = record { beside = c.take_and_add.ensures.places ∙ c.self.invariant.beside; placed = c.self.invariant.placed }

pub returns-clause-ok : goal.returns-clause-ok
returns-clause-ok g c =
    let i = c.self.inside in
    rw (← c.self.view_is)
    (on_ok c.take_and_add.result _ _
    (λ waits. turned_waits c.args.taken c.args.sent.now i.gateways.items i.places i.links i.queues c.take_and_add.new.self waits)
    c.take_and_add.ensures.ok)

pub returns-clause-err : goal.returns-clause-err
returns-clause-err g c =
    rw (← c.self.view_is)
    (on_err_weaker c.take_and_add.result (λ same. rw same refl) c.take_and_add.ensures.err)
