use Rattle.std.proofs.lemmas.Result.{on_ok_weaker}
use Rattle.zt_calls.proofs.Doing.{does-both}
use Rattle.zt_calls.proofs.speaking.declare_plain.Goals as goal

pub returns : goal.returns
returns g c = on_ok_weaker c.declare_if.result (λ done. does-both c.in_ok-answer_asked.ensures done) c.declare_if.ensures
