use Rattle.std.proofs.Common.{◌∙◌}
use Rattle.zt_routers.proofs.Origins.{keys-last}
use Rattle.zt_routers.proofs.ordering.add_keys.Goals as goal

pub loop-key-preserved : goal.loop-key-preserved
loop-key-preserved g c = rw c.in_ok-insert.ensures (keys-last g.K.Ord.cmp c.loop-key.key-iterator.iter c.next.new.self.iter c.in-Some.key.now c.loop-key.exprs c.in-Some.ensures.steps ∙ c.loop-key.invariant)
