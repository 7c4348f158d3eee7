use Rattle.std.proofs.Common.{◌≡◌, take}
use Rattle.zt_check_faces.proofs.copies.copy_queryables.Given as goal

-- those so far are copied
abbrev pub invariant-loop-queryable : goal.invariant-loop-queryable
invariant-loop-queryable g l = l.copies.items ≡ take l.queryable-index l.queryables
