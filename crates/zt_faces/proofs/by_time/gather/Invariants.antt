use Rattle.zt_faces.specs.Slots.{faces_in}
use Rattle.zt_faces.proofs.Times.{IsGathering}
use Rattle.zt_faces.proofs.by_time.gather.Given as goal

-- what isn't found yet is among those that are left
abbrev pub invariant-loop-timed : goal.invariant-loop-timed
invariant-loop-timed g l = IsGathering l.now l.timeout (faces_in l.slots) l.timed-iterator l.found.items
