use Rattle.std.proofs.lemmas.Result.{on_ok_weaker}
use Rattle.zt_check_fabric.proofs.Waits.{waits_so}
use Rattle.zt_check_fabric.proofs.fabric.ShownFabric.wait.Goals as goal

pub returns : goal.returns
returns g c =
    let i = c.self.inside in
    rw (← c.self.view_is)
    (on_ok_weaker c.add_printed.result
    (λ done. waits_so i.gateways.items i.faces.items i.links.items _ _ done)
    c.add_printed.ensures)
