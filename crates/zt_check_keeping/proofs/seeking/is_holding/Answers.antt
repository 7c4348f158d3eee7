use Rattle.zt_check_keeping.proofs.Sought.{holding_of_part}
use Rattle.zt_check_keeping.proofs.seeking.is_holding.Goals as goal

pub loop-face-init : goal.loop-face-init
loop-face-init g c =
    let x = c.args in
    holding_of_part x.number x.id c.faces_of-face-items.result.now x.rows.now.faces c.faces_of-face-items.ensures
