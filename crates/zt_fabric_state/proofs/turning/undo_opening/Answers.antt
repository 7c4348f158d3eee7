use Rattle.std.proofs.Common.{length, subst, sym}
use Rattle.zt_model.specs.Fabric.{Fabric}
use Rattle.zt_link_queues.specs.Found.{AreBelow}
use Rattle.zt_fabric_state.proofs.Joints.{undone_free}
use Rattle.zt_fabric_state.proofs.turning.undo_opening.Goals as goal

pub pop_place-requires : goal.pop_place-requires
pop_place-requires g c =
    subst (λ (t : Fabric _). AreBelow (length t.faces) t.links) (sym c.undo.ensures) (undone_free c.args.former c.args.gateway c.args.s.now c.requires)
