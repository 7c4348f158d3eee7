use Rattle.std.proofs.lemmas.Result.{on_ok_weaker}
use Rattle.zt_check_fabric.proofs.Carried.{link_added}
use Rattle.zt_check_fabric.proofs.fabric.ShownFabric.add_link.Goals as goal

pub returns : goal.returns
returns g c =
    on_ok_weaker c.push_queue-2.result
    (λ done. link_added c.args.self.now c.push_link.new.self c.push_queue.new.self c.push_queue-2.new.self c.in_ok-one.one c.in_ok-two.two c.in_ok-one.ensures c.in_ok-two.ensures c.in_ok-push_link.ensures c.in_ok-push_queue.ensures done)
    c.push_queue-2.ensures
