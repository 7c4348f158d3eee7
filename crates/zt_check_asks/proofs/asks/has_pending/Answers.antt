use Rattle.zt_check_keeping.proofs.Sought.{has_id_of_part}
use Rattle.zt_check_asks.proofs.asks.has_pending.Goals as goal

pub loop-row-init : goal.loop-row-init
loop-row-init g c = has_id_of_part c.args.id c.pendings_of-row-items.result.now c.args.face.now.pendings c.pendings_of-row-items.ensures
