use Rattle.std.proofs.Common.{◌≡◌, Some, ap, subst, sym, ◌∙◌, map}
use Rattle.zt_protocol.specs.Plain.{plain_call}
use Rattle.zt_model.specs.Fabric.{Fabric, said_at}
use Rattle.zt_model.specs.Lists.{nth}
use Rattle.zt_laws.proofs.Sorting.{printed}
use Rattle.zt_fabric_state.proofs.Carried.{call_there}
use Rattle.zt_fabric_state.proofs.Members.{some_member}
use Rattle.zt_fabric_state.proofs.carrying.prepare.Goals as goal

pub returns-clause-rows : goal.returns-clause-rows
returns-clause-rows g c node at_ = c.in_ok-ahead.ensures.state node (rw c.requires.counted at at_)

pub returns-clause-printed : goal.returns-clause-printed
returns-clause-printed g c =
    let s = c.args.s.now in
    let n = c.args.gateway in
    let call = plain_call c.args.call.now in
    let member = some_member n c.args.at s.gateways c.requires.counted c.requires.within in
    c.in_ok-printed.ensures
    ∙ ap (λ (places : _). map (printed places n) c.in_ok-ahead.ahead.said.items) (c.places.ensures ∙ ap (λ (t : Fabric _). t.faces) c.in_ok-ahead.ensures.same)
    ∙ ap (map (printed s.faces n)) (c.in_ok-ahead.ensures.said member.0 (subst (λ k. nth k s.gateways ≡ Some member.0) c.requires.counted member.1))
    ∙ ap (said_at g.K.Ord.cmp g.K.Key.matching s) (sym (call_there s n member.0 call member.1))
