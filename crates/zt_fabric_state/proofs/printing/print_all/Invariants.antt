use Rattle.std.proofs.Common.{◌≡◌, ◌++◌, map}
use Rattle.std.specs.Vec.Iter.{into_iter_items}
use Rattle.zt_laws.proofs.Sorting.{printed}
use Rattle.zt_fabric_state.proofs.printing.print_all.Given as goal

-- those so far are printed, and those left are yet to be
abbrev pub invariant-loop-face : goal.invariant-loop-face
invariant-loop-face g l = l.printed.items ++ map (printed l.places l.gateway) (into_iter_items l.face-iterator) ≡ map (printed l.places l.gateway) l.fn.sends.items
