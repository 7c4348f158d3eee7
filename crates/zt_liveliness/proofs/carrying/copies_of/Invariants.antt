use Rattle.std.proofs.Common.{◌≡◌, take}
use Rattle.zt_gateway.specs.Running.{by_face}
use Rattle.zt_liveliness.proofs.carrying.copies_of.Given as goal

-- those so far are copied
abbrev pub invariant-loop-place : goal.invariant-loop-place
invariant-loop-place g l = l.copies.items ≡ take l.place (by_face l.prepared.said)
