use Rattle.std.proofs.Common.{◌≡◌, Some, ap, slice_get, sym, ◌∙◌}
use Rattle.std.specs.Option.{option_copied}
use Rattle.zt_gateway.proofs.ByFace.{item_at}
use Rattle.zt_gateway.proofs.prepared.message_at.Goals as goal

pub returns-in-Some : goal.returns-in-Some
returns-in-Some g c =
    let place : slice_get c.args.order.now c.args.i ≡ Some c.in-Some.place.now =
    sym (item_at c.args.order.now c.args.i c.get.result c.get.ensures.lookup) ∙ ap option_copied c.in-Some.is
    in
    rw place (item_at c.args.said.now c.in-Some.place.now c.get-in-Some.result c.get-in-Some.ensures.lookup)
