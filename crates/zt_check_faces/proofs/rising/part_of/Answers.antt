use Rattle.zt_check_faces.proofs.Risen.{part_found, part_none}
use Rattle.zt_check_faces.proofs.rising.part_of.Goals as goal

pub returns-in-Ok : goal.returns-in-Ok
returns-in-Ok g c =
    rw c.from_ref.ensures.value
    (part_found c.args.id c.args.rows.now c.in-Ok.place _ c.requires c.in-Ok.ensures.place c.index-rows-place.is)

pub returns-in-Err : goal.returns-in-Err
returns-in-Err g c = part_none c.args.id c.args.rows.now _ c.requires c.in-Err.ensures.place
