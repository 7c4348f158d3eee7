use Rattle.std.proofs.Common.{OnOk, subst}
use Rattle.std.proofs.lemmas.Result.{on_ok_weaker}
use Rattle.zt_calls.proofs.Doing.{does-both}
use Rattle.zt_calls.specs.Does.{Does}
use Rattle.zt_model.specs.Trees.{hiding}
use Rattle.zt_region.specs.declared.region.Region.{Region}
use Rattle.zt_calls.proofs.closing.leave_token.Goals as goal

pub returns : goal.returns
returns g c =
    let cmp = g.K.Ord.cmp in
    let hidden = λ (region : Region). OnOk c.hide_token.result (Does cmp g.K.Key.matching (hiding cmp region c.args.expr.now) c.undeclare_found.new.g c.hide_token.new.g c.undeclare_found.new.speech c.hide_token.new.speech) in
    on_ok_weaker c.hide_token.result (λ done. does-both c.in_ok-undeclare_found.ensures done) (subst hidden c.region.ensures c.hide_token.ensures)
