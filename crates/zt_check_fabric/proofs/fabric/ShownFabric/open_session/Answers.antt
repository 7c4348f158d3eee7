use Rattle.std.proofs.Common.{◌∙◌}
use Rattle.std.proofs.lemmas.Result.{on_ok_weaker}
use Rattle.zt_check_fabric.proofs.Carried.{session_opened}
use Rattle.zt_check_fabric.proofs.fabric.ShownFabric.open_session.Goals as goal

pub returns : goal.returns
returns g c = on_ok_weaker c.open_at.result (λ done. done ∙ session_opened g.K.Ord.cmp g.K.Key.matching c.args.self.now c.args.gateway c.args.first) c.open_at.ensures
