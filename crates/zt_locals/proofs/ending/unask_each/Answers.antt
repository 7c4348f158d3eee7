use Rattle.std.proofs.Common.{arith}
use Rattle.zt_locals.specs.Ending.{unasked}
use Rattle.zt_locals.proofs.Unasked.{mapped_set}
use Rattle.zt_locals.proofs.ending.unask_each.Goals as goal

pub loop-at-preserved : goal.loop-at-preserved
loop-at-preserved g c =
    rw c.remove.ensures
    (mapped_set (unasked c.args.id) c.args.simple.now.items c.loop-at.simple.items c.loop-at.at c.index_mut-row.result.now (omega arith) c.loop-at.invariant c.index_mut-row.ensures.value)
