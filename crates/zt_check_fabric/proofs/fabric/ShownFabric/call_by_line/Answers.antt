use Rattle.std.proofs.Common.{ap, ◌∙◌}
use Rattle.std.proofs.lemmas.Result.{on_ok_weaker}
use Rattle.zt_model.specs.Transcript.{with_call}
use Rattle.zt_check_fabric.proofs.fabric.ShownFabric.call_by_line.Goals as goal

pub returns : goal.returns
returns g c =
    on_ok_weaker c.carry.result (λ done. done ∙ ap (λ at. with_call g.K.Ord.cmp g.K.Key.matching c.args.sents.now at c.args.self.now) c.in_ok-made.ensures) c.carry.ensures
