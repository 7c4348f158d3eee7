use Rattle.std.proofs.Common.{◌≡◌, take}
use Rattle.zt_shared.proofs.copies.copy_sent.Given as goal

-- those so far are copied
abbrev pub invariant-loop-one : goal.invariant-loop-one
invariant-loop-one g l = l.copies.items ≡ take l.one-index l.sent
