use Rattle.zt_faces.specs.Slots.{faces_in}
use Rattle.zt_faces.proofs.Expiring.{expired-are}
use Rattle.zt_faces.proofs.Gaps.{faces-rising}
use Rattle.zt_faces.proofs.by_time.Times.expired.Goals as goal

pub returns : goal.returns
returns g c =
    let slots = c.args.slots.now in
    expired-are c.args.now c.args.timeout (faces_in slots) _ _ (faces-rising slots c.requires.rising) c.in_ok-found.ensures c.put_in_order.ensures
