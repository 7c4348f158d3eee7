use Rattle.std.proofs.Common.{◌≡◌, take}
use Rattle.zt_check_faces.proofs.copies.copy_keys.Given as goal

-- those so far are copied
abbrev pub invariant-loop-key : goal.invariant-loop-key
invariant-loop-key g l = l.copies.items ≡ take l.key-index l.keys
