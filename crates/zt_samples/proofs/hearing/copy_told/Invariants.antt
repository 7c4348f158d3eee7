use Rattle.std.proofs.Common.{◌≡◌, take}
use Rattle.zt_samples.proofs.hearing.copy_told.Given as goal

-- those so far are copied
abbrev pub invariant-loop-row : goal.invariant-loop-row
invariant-loop-row g l = l.copies.items ≡ take l.row-index l.told
