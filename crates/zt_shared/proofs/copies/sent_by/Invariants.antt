use Rattle.std.proofs.Common.{◌≡◌, map, take}
use Rattle.zt_gateway.specs.Running.{by_face, sent_alone}
use Rattle.zt_shared.proofs.copies.sent_by.Given as goal

-- those so far are copied
abbrev pub invariant-loop-place : goal.invariant-loop-place
invariant-loop-place g l = l.sent.items ≡ map sent_alone (take l.place (by_face l.prepared.said))
