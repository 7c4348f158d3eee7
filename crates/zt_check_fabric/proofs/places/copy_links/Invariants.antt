use Rattle.std.proofs.Common.{◌≡◌, take}
use Rattle.zt_check_fabric.proofs.places.copy_links.Given as goal

-- those so far are copied
abbrev pub invariant-loop-link : goal.invariant-loop-link
invariant-loop-link l = l.copies.items ≡ take l.link-index l.links
