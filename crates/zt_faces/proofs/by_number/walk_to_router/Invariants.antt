use Rattle.std.proofs.Common.{◌≡◌, ◌&&◌}
use Rattle.zt_region.specs.Region.{region_eq, zid_eq}
use Rattle.zt_model.specs.Lists.{first_where}
use Rattle.zt_faces.specs.Slots.{faces_in}
use Rattle.zt_faces.proofs.by_number.walk_to_router.Given as goal

-- the first is among those that are left
abbrev pub invariant-loop-f : goal.invariant-loop-f
invariant-loop-f g l =
    first_where (λ x. region_eq x.region l.region && zid_eq x.zid l.zid) l.f-iterator
    ≡ first_where (λ x. region_eq x.region l.region && zid_eq x.zid l.zid) (faces_in l.slots)
