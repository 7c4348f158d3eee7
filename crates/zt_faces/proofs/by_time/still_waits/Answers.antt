use Rattle.std.proofs.Common.{sym, ◌∙◌}
use Rattle.zt_faces.specs.Slots.{faces_in}
use Rattle.zt_faces.proofs.Gaps.{faces-rising}
use Rattle.zt_faces.proofs.Times.{found-waits, none-waits}
use Rattle.zt_faces.proofs.by_time.still_waits.Goals as goal

pub returns-in-None-clause-waits : goal.returns-in-None-clause-waits
returns-in-None-clause-waits g c = sym (none-waits c.args.timed (faces_in c.args.slots.now) (sym c.in-None.ensures)).0

pub returns-in-None-clause-ordered : goal.returns-in-None-clause-ordered
returns-in-None-clause-ordered g c = (none-waits c.args.timed (faces_in c.args.slots.now) (sym c.in-None.ensures)).1

pub returns-in-Some-clause-waits : goal.returns-in-Some-clause-waits
returns-in-Some-clause-waits g c =
    let slots = c.args.slots.now in
    c.waits_at.ensures.waits ∙ sym (found-waits c.args.timed (faces_in slots) c.in-Some.f.now (faces-rising slots c.requires) (sym c.in-Some.ensures) c.waits_at.ensures.ordered).0

pub returns-in-Some-clause-ordered : goal.returns-in-Some-clause-ordered
returns-in-Some-clause-ordered g c =
    let slots = c.args.slots.now in
    (found-waits c.args.timed (faces_in slots) c.in-Some.f.now (faces-rising slots c.requires) (sym c.in-Some.ensures) c.waits_at.ensures.ordered).1
