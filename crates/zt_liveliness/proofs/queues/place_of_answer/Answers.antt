use Rattle.std.proofs.Common.{◌≡◌, ◌<◌, ◌++◌, true, ap, length, take, sym, ◌∙◌}
use Rattle.std.specs.Option.{is_some}
use Rattle.zt_liveliness.specs.Queues.{answer_for}
use Rattle.zt_liveliness.proofs.Walks.{unanswered_here}
use Rattle.zt_liveliness.proofs.queues.place_of_answer.Goals as goal

pub returns-then-is_answer-clause-left : goal.returns-then-is_answer-clause-left
returns-then-is_answer-clause-left g c =
    let within : c.loop-place.place < length c.args.waiting.now = c.loop-place-test.true in
    let own : is_some (answer_for c.args.session c.args.id c.index-waiting-place.result) ≡ true = sym c.is_answer.ensures ∙ c.if-is_answer.true in
    c.loop-place.invariant.left
    ∙ ap (λ rest. take c.loop-place.place c.args.waiting.now ++ rest) (unanswered_here c.args.session c.args.id c.args.waiting.now c.loop-place.place c.index-waiting-place.result within c.index-waiting-place.is own)
