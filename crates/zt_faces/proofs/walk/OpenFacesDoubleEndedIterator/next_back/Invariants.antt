use Rattle.std.proofs.Common.{◌≡◌, length}
use Rattle.zt_faces.specs.Slots.{faces_in}
use Rattle.zt_faces.proofs.walk.OpenFacesDoubleEndedIterator.next_back.Given as goal

-- no face was passed over
abbrev pub invariant-loop-self : goal.invariant-loop-self
invariant-loop-self g l = faces_in l.self-inside.slots.now ≡ l.fn.self

abbrev pub decreases-loop-self : goal.decreases-loop-self
decreases-loop-self g l = length l.self-inside.slots.now
