use Rattle.std.proofs.lemmas.Result.{on_ok_weaker}
use Rattle.zt_calls.proofs.Doing.{does-alter, does-both}
use Rattle.zt_model.specs.Parts.{with_face}
use Rattle.zt_model.specs.Telling.{registered}
use Rattle.zt_calls.proofs.tokens.declare.Goals as goal

pub returns : goal.returns
returns g c = on_ok_weaker c.tell_all.result (λ done. does-both (does-alter (with_face c.args.face (registered c.args.id c.args.expr.now)) c.in_ok-register.ensures) done) c.tell_all.ensures
