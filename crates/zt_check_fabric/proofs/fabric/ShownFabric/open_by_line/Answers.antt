use Rattle.std.proofs.Common.{ap, ◌∙◌}
use Rattle.std.proofs.lemmas.Result.{on_ok_weaker}
use Rattle.zt_model.specs.Transcript.{with_opening}
use Rattle.zt_check_fabric.proofs.fabric.ShownFabric.open_by_line.Goals as goal

pub returns : goal.returns
returns g c =
    on_ok_weaker c.open_made.result (λ done. done ∙ ap (λ at. with_opening g.K.Ord.cmp g.K.Key.matching at c.args.self.now) c.in_ok-made.ensures) c.open_made.ensures
