use Rattle.std.proofs.lemmas.Result.{on_ok_weaker}
use Rattle.zt_calls.proofs.Doing.{does-alter, does-both}
use Rattle.zt_model.specs.Parts.{to_face, with_face}
use Rattle.zt_model.specs.Routing.{end_upstream, final_of_both, unheld}
use Rattle.zt_calls.proofs.ending.finalise.Goals as goal

pub returns : goal.returns
returns g c =
    let cmp = g.K.Ord.cmp in
    let matching = g.K.Key.matching in
    let n = c.args.face in
    let interest = c.args.interest.now in
    let ended = c.in_ok-say.ensures (to_face n (final_of_both c.args.id interest)) c.in_ok-finals.ensures in
    on_ok_weaker c.say-2.result (λ said. does-both (does-both (does-both (does-alter (with_face n (unheld c.args.id)) c.unhold.ensures) c.in_ok-say_untold.ensures) ended) (said (end_upstream cmp matching interest) c.in_ok-ends.ensures)) c.say-2.ensures
