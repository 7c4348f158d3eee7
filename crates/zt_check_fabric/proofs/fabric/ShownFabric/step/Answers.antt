use Rattle.std.proofs.lemmas.Result.{on_ok_weaker}
use Rattle.zt_check_fabric.proofs.Carried.{stepped}
use Rattle.zt_check_fabric.proofs.fabric.ShownFabric.step.Goals as goal

pub returns : goal.returns
returns g c =
    on_ok_weaker c.carry.result
    (λ done.
    stepped g.K.Ord.cmp g.K.Key.matching c.args.self.now c.take_waiting.new.self c.carry.new.self c.args.sents.now c.args.link c.args.back c.in_ok-made.made c.in_ok-made.ensures c.take_waiting.ensures done)
    c.carry.ensures
