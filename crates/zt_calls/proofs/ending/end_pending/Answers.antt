use Rattle.std.proofs.lemmas.Result.{on_ok_weaker}
use Rattle.zt_calls.proofs.Doing.{does-alter, does-both}
use Rattle.zt_model.specs.Parts.{with_face}
use Rattle.zt_model.specs.Routing.{ended, finish}
use Rattle.zt_calls.proofs.ending.end_pending.Goals as goal

pub returns : goal.returns
returns g c =
    on_ok_weaker c.say.result (λ said. does-both (does-alter (with_face c.args.face (ended c.args.id)) c.end_pending.ensures) (said (finish c.args.face c.args.id) c.in_ok-finals.ensures)) c.say.ensures
