use Rattle.std.proofs.Common.{length}
use Rattle.zt_faces.specs.Slots.{faces_in}
use Rattle.zt_faces.specs.Timed.{AreTimed}
use Rattle.zt_faces.proofs.by_time.drop_ended.Given as goal

-- only what waits no more was dropped
abbrev pub invariant-loop-first : goal.invariant-loop-first
invariant-loop-first g l = AreTimed l.rows.keys (faces_in l.slots)

abbrev pub decreases-loop-first : goal.decreases-loop-first
decreases-loop-first g l = length l.rows.keys
