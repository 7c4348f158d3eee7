use Rattle.zt_check_asks.proofs.Sought.{of_part_of_faces}
use Rattle.zt_check_asks.proofs.answers.are_answered_in.Goals as goal

pub loop-face-init : goal.loop-face-init
loop-face-init g c =
    let x = c.args in
    of_part_of_faces g.K.Ord.cmp g.K.Key.matching x.fabric.now x.told.now x.gateway x.rows.now x.number x.id c.faces_of-face-items.result.now c.faces_of-face-items.ensures
