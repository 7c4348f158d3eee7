use Rattle.std.proofs.Common.{◌≡◌, take}
use Rattle.zt_check_fabric.proofs.places.copy_places.Given as goal

-- those so far are copied
abbrev pub invariant-loop-place : goal.invariant-loop-place
invariant-loop-place l = l.copies.items ≡ take l.place-index l.places
