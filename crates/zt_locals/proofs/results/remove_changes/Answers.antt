use Rattle.zt_locals.specs.Results.{remove_result}
use Rattle.zt_locals.proofs.Told.{beside_step, beside_end}
use Rattle.zt_locals.proofs.results.remove_changes.Goals as goal

pub loop-at-preserved : goal.loop-at-preserved
loop-at-preserved g c =
    beside_step (remove_result g.Info.PartialEq.eq) c.args.rows.now c.args.infos.now c.loop-at.at c.index-rows-at.result c.index-infos-at.result c.loop-at.results.items c.push_remove_change.new.results.items _
    c.loop-at-test.true c.requires c.index-rows-at.is c.index-infos-at.is c.in_ok-push_remove_change.ensures c.loop-at.invariant

pub returns : goal.returns
returns g c = beside_end (remove_result g.Info.PartialEq.eq) c.args.rows.now c.args.infos.now c.loop-at.at c.loop-at.results.items _ c.loop-at-test.false c.loop-at.invariant
