use Rattle.std.proofs.lemmas.Result.{on_ok_weaker}
use Rattle.zt_calls.proofs.Doing.{does-unsaid}
use Rattle.zt_model.specs.Parts.{to_face}
use Rattle.zt_model.specs.Routing.{untell_to}
use Rattle.zt_calls.proofs.ending.say_untold.Goals as goal

pub returns-then-is_spared : goal.returns-then-is_spared
returns-then-is_spared g c = does-unsaid g.K.Ord.cmp g.K.Key.matching c.args.face (untell_to g.K.Ord.cmp g.K.Key.matching) c.args.g.now c.args.speech.now (c.is_spared.ensures c.if-is_spared.true)

pub returns : goal.returns
returns g c =
    on_ok_weaker c.say.result (λ said. said (λ h. to_face c.args.face (untell_to g.K.Ord.cmp g.K.Key.matching h) h) c.in_ok-gone.ensures) c.say.ensures
