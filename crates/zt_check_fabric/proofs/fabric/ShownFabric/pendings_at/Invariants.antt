use Rattle.std.proofs.Common.{◌≡◌, ◌++◌, drop}
use Rattle.std.specs.List.{flat_map}
use Rattle.zt_check_fabric.specs.Made.{pendings_at, pendings_for}
use Rattle.zt_check_fabric.proofs.fabric.ShownFabric.pendings_at.Given as goal

-- those so far, and those of the faces that are left, are all
abbrev pub invariant-loop-face : goal.invariant-loop-face
invariant-loop-face g l =
    l.pendings.items ++ flat_map (pendings_for l.self l.sents l.gateway) (drop l.face-index l.face-items)
    ≡ pendings_at l.self l.sents l.gateway l.rows
