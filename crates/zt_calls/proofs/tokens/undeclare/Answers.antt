use Rattle.std.proofs.lemmas.Result.{on_ok_weaker}
use Rattle.zt_calls.proofs.Doing.{does-alter, does-both}
use Rattle.zt_model.specs.Parts.{with_face}
use Rattle.zt_model.specs.Telling.{forget, unregistered}
use Rattle.zt_calls.proofs.tokens.undeclare.Goals as goal

pub returns : goal.returns
returns g c =
    let gone = forget g.K.Ord.cmp g.K.Key.matching c.args.region c.args.expr.now in
    on_ok_weaker c.say.result (λ said. does-both (does-alter (with_face c.args.face (unregistered c.args.id)) c.unregister.ensures) (said gone c.in_ok-gone.ensures)) c.say.ensures
