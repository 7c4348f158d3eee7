use Rattle.zt_locals.proofs.Infos.{infos_set}
use Rattle.zt_locals.proofs.fold.set_infos.Goals as goal

pub loop-at-preserved : goal.loop-at-preserved
loop-at-preserved g c = infos_set c.args.rows.now.items c.args.infos.now c.loop-at.at c.index_mut-row.result.now c.index-infos-at.result c.loop-at.rows.items c.loop-at-test.true c.requires c.loop-at.invariant c.index_mut-row.ensures.value c.index-infos-at.is
