use Rattle.std.proofs.Common.{◌≡◌, None, ap, sym}
use Rattle.zt_model.specs.Lists.{nth}
use Rattle.zt_fabric_state.proofs.PutBack.{at_nth_none}
use Rattle.zt_fabric_state.proofs.turning.put_back.Goals as goal

pub returns-in-None : goal.returns-in-None
returns-in-None g c =
    let s = c.args.s.now in
    let none : nth c.args.gateway s.gateways ≡ None = rw c.gateways.ensures at c.in-None.ensures.none in
    ap (λ gateways. record s { gateways = gateways }) (sym (at_nth_none c.args.gateway _ s.gateways none))

pub returns-in-Some : goal.returns-in-Some
returns-in-Some g c = rw c.in-Some.ensures.counted c.undo_at.ensures
