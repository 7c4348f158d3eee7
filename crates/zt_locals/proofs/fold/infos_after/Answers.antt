use Rattle.std.proofs.lemmas.List.{take_all}
use Rattle.zt_locals.proofs.fold.infos_after.Goals as goal

pub returns : goal.returns
returns g c = rw (take_all c.loop-row.row-index c.args.rows.now c.loop-row-test.false) at c.loop-row.invariant
