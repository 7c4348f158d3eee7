use Rattle.std.proofs.Common.{◌≡◌, ◌++◌, drop, map}
use Rattle.zt_model.specs.Fabric.{face_at}
use Rattle.zt_check_fabric.proofs.fabric.ShownFabric.links_at.Given as goal

-- what is made so far, and what is left, is all
abbrev pub invariant-loop-link : goal.invariant-loop-link
invariant-loop-link g l =
    l.found.items ++ map (λ link. (face_at l.self l.gateway link.0, link.1, link.2)) (drop l.link-index l.links)
    ≡ map (λ link. (face_at l.self l.gateway link.0, link.1, link.2)) l.links
