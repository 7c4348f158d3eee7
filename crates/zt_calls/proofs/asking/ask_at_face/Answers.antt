use Rattle.std.proofs.Common.{ap, ◌∙◌}
use Rattle.std.proofs.lemmas.Result.{on_ok_weaker}
use Rattle.zt_calls.proofs.Doing.{does-alter, does-both}
use Rattle.zt_model.specs.Parts.{to_face, with_face}
use Rattle.zt_model.specs.Routing.{asked_as, final_of}
use Rattle.zt_model.specs.Telling.{answers_of}
use Rattle.zt_calls.proofs.asking.ask_at_face.Goals as goal

pub returns : goal.returns
returns g c =
    let cmp = g.K.Ord.cmp in
    let matching = g.K.Key.matching in
    let n = c.args.face in
    let id = c.args.id in
    let interest = c.args.interest.now in
    let asks = with_face n (asked_as c.args.pendings.now id interest) in
    let answered = c.in_ok-say.ensures (λ h. to_face n (answers_of cmp matching h id interest) h) c.in_ok-answers.ensures in
    on_ok_weaker c.say-2.result (λ said. does-both (does-both (does-alter asks (c.in_ok-ask.ensures ∙ ap asks c.prepare_answers.ensures)) answered) (said (to_face n (final_of id)) c.in_ok-finals.ensures)) c.say-2.ensures
