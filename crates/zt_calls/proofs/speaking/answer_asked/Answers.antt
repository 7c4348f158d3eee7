use Rattle.std.proofs.Common.{OnOk, Option, subst, sym, ℕ}
use Rattle.std.proofs.lemmas.Result.{on_ok_weaker}
use Rattle.zt_calls.proofs.Doing.{does-nothing}
use Rattle.zt_calls.specs.Does.{Does}
use Rattle.zt_calls.specs.Speaking.{answering_asked}
use Rattle.zt_model.specs.Telling.{answer}
use Rattle.zt_calls.proofs.speaking.answer_asked.Goals as goal

pub returns-in_default : goal.returns-in_default
returns-in_default g c =
    let cmp = g.K.Ord.cmp in
    let matching = g.K.Key.matching in
    subst (λ (asked : Option ℕ). Does cmp matching (answering_asked cmp matching c.args.face asked c.args.expr.now) c.args.g.now c.args.g.now c.args.speech.now c.args.speech.now) (sym c.in_default.is)
    (does-nothing cmp matching c.args.g.now c.args.speech.now)

pub returns : goal.returns
returns g c =
    let cmp = g.K.Ord.cmp in
    let matching = g.K.Key.matching in
    let answers = answer cmp matching c.args.face c.in-Some.id c.args.expr.now in
    subst (λ (asked : Option ℕ). OnOk c.say.result (Does cmp matching (answering_asked cmp matching c.args.face asked c.args.expr.now) c.args.g.now c.say.new.g c.args.speech.now c.say.new.speech)) (sym c.in-Some.is)
    (on_ok_weaker c.say.result (λ said. said answers c.in_ok-answers.ensures) c.say.ensures)
