use Rattle.zt_check_keeping.specs.Keeping.{may_hear_all}
use Rattle.zt_check_keeping.proofs.Sought.{tested_of_part}
use Rattle.zt_check_keeping.proofs.keeping.face_may_hear_all.Goals as goal

pub loop-face-init : goal.loop-face-init
loop-face-init g c =
    let x = c.args in
    tested_of_part x.number (λ h f. may_hear_all g.K.Ord.cmp g.K.Key.matching f) x.rows.now c.faces_of-face-items.result.now c.faces_of-face-items.ensures
