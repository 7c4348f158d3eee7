use Rattle.std.proofs.Common.{ap, ◌∙◌}
use Rattle.std.specs.List.{list_all}
use Rattle.zt_check_finals.specs.Finishing.{is_finished_under}
use Rattle.zt_check_finals.proofs.finals.are_finished_under.Goals as goal

pub returns : goal.returns
returns g c =
    let x = c.args in
    c.all_finished_under.ensures ∙ ap (list_all (is_finished_under x.fabric.now x.finalised x.sents.now x.ended.now x.rows.now x.face.now)) c.asks.ensures
