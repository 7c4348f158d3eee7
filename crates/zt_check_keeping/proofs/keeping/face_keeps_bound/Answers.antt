use Rattle.zt_check_keeping.specs.Keeping.{keeps_bound}
use Rattle.zt_check_keeping.proofs.Sought.{tested_of_part}
use Rattle.zt_check_keeping.proofs.keeping.face_keeps_bound.Goals as goal

pub loop-face-init : goal.loop-face-init
loop-face-init g c =
    let x = c.args in
    tested_of_part x.number (λ h f. keeps_bound g.K.Ord.cmp g.K.Key.matching x.bound h f x.expr.now) x.rows.now c.faces_of-face-items.result.now c.faces_of-face-items.ensures
