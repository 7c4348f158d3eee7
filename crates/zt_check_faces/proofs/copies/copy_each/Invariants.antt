use Rattle.std.proofs.Common.{◌≡◌, take}
use Rattle.zt_check_faces.proofs.copies.copy_each.Given as goal

-- those so far are copied
abbrev pub invariant-loop-member : goal.invariant-loop-member
invariant-loop-member g l = l.copies.items ≡ take l.member-index l.members
