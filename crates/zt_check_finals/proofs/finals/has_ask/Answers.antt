use Rattle.zt_check_keeping.proofs.Sought.{has_id_of_part}
use Rattle.zt_check_finals.proofs.finals.has_ask.Goals as goal

pub loop-row-init : goal.loop-row-init
loop-row-init g c = has_id_of_part c.args.id c.asks_of-row-items.result.now c.args.face.now.asks c.asks_of-row-items.ensures
