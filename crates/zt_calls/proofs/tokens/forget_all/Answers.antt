use Rattle.std.proofs.lemmas.Result.{on_ok_weaker}
use Rattle.zt_calls.proofs.Doing.{does-both}
use Rattle.zt_model.specs.Telling.{forget}
use Rattle.zt_calls.proofs.tokens.forget_all.Goals as goal

pub returns : goal.returns
returns g c = on_ok_weaker c.hide_token.result (λ done. does-both (c.in_ok-say.ensures (forget g.K.Ord.cmp g.K.Key.matching c.args.source c.args.expr.now) c.in_ok-gone.ensures) done) c.hide_token.ensures
