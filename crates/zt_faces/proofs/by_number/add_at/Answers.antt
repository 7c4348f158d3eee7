use Rattle.zt_faces.proofs.Gaps.{raised}
use Rattle.zt_faces.proofs.by_number.add_at.Goals as goal

pub returns-in-Ok-clause-up_to : goal.returns-in-Ok-clause-up_to
returns-in-Ok-clause-up_to g c =
    rw c.max.ensures (raised c.args.highest_next.now c.in-Ok.next c.args.slots.now.items c.args.place c.add.new.self c.requires.up_to c.in-Ok.ensures.next)
