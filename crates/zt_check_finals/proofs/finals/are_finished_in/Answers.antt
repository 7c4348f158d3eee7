use Rattle.zt_check_finals.proofs.Sought.{of_part_of_faces}
use Rattle.zt_check_finals.proofs.finals.are_finished_in.Goals as goal

pub loop-face-init : goal.loop-face-init
loop-face-init g c =
    let x = c.args in
    of_part_of_faces x.fabric.now x.finalised x.sents.now x.gateway x.rows.now x.number x.id c.faces_of-face-items.result.now c.faces_of-face-items.ensures
