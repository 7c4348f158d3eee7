use Rattle.std.proofs.lemmas.Result.{on_ok_weaker}
use Rattle.zt_calls.proofs.Doing.{does-both}
use Rattle.zt_model.specs.Telling.{tell}
use Rattle.zt_calls.proofs.tokens.tell_all.Goals as goal

pub returns : goal.returns
returns g c = on_ok_weaker c.show_token.result (λ done. does-both (c.in_ok-say.ensures (tell g.K.Ord.cmp g.K.Key.matching c.args.source c.args.expr.now) c.in_ok-told.ensures) done) c.show_token.ensures
