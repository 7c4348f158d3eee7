use Rattle.zt_shared_value.proofs.AllHanded.{left_by}
use Rattle.zt_shared_value.proofs.closing.taken_out.Goals as goal

pub returns : goal.returns
returns g c = let J = g.J.Recorder in
    left_by J.journal J.author J.state c.args.table.shared.key.value _ _ c.args.seat.id c.args.seat.me.0 c.requires.all.some_handed c.requires.all.handed
    c.close_with-closed.ensures.values.2 c.take-value.result c.take-value.ensures.value
