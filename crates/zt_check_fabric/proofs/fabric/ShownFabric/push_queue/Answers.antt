use Rattle.std.proofs.Common.{List, [], ◌∷◌, ◌++◌, ap, ◌∙◌}
use Rattle.zt_protocol.specs.declared.messages.Message.{Message}
use Rattle.zt_check_fabric.proofs.Waits.{waits_so}
use Rattle.zt_check_fabric.proofs.fabric.ShownFabric.push_queue.Goals as goal

pub returns : goal.returns
returns g c =
    let i = c.self.inside in
    rw (← c.self.view_is)
    (waits_so i.gateways.items i.faces.items i.links.items _ _
    (c.in_ok-push.ensures.items ∙ ap (λ (queue : List (Message _)). i.waiting.items ++ (c.args.face, queue) ∷ []) c.new.ensures))
