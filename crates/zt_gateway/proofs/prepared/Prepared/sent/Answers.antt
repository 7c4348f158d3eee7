use Rattle.std.proofs.Common.{ap, sym, ◌∙◌}
use Rattle.std.specs.Option.{option_copied}
use Rattle.zt_gateway.specs.Running.{by_face}
use Rattle.zt_gateway.proofs.ByFace.{at_place}
use Rattle.zt_gateway.proofs.prepared.Prepared.sent.Goals as goal

pub returns-in-None : goal.returns-in-None
returns-in-None g c =
    let inside = c.self.inside in
    let found = rw (c.as_slice.ensures.value, c.as_slice-2.ensures.value) at c.message_at.ensures in
    rw (← c.self.view_is)
    (ap option_copied (sym c.in-None.is) ∙ found ∙ at_place inside.said.items (by_face inside.said.items) inside.order.items c.args.i c.self.invariant.placed)

pub returns-in-Some : goal.returns-in-Some
returns-in-Some g c =
    let inside = c.self.inside in
    let found = rw (c.as_slice.ensures.value, c.as_slice-2.ensures.value) at c.message_at.ensures in
    rw (← c.self.view_is)
    (ap option_copied (sym c.in-Some.is) ∙ found ∙ at_place inside.said.items (by_face inside.said.items) inside.order.items c.args.i c.self.invariant.placed)
