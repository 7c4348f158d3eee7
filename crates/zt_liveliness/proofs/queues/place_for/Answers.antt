use Rattle.std.proofs.Common.{◌<◌, ◌++◌, ap, length, take, ◌∙◌}
use Rattle.zt_liveliness.proofs.Walks.{left_behind, left_here, oldest_behind}
use Rattle.zt_liveliness.proofs.queues.place_for.Goals as goal

pub returns-then-face-message-clause-left : goal.returns-then-face-message-clause-left
returns-then-face-message-clause-left g c =
    let within : c.loop-place.place < length c.args.waiting.now = c.loop-place-test.true in
    c.loop-place.invariant.left
    ∙ ap (λ rest. take c.loop-place.place c.args.waiting.now ++ rest) (left_here c.args.face c.args.waiting.now c.loop-place.place c.index-waiting-place.result within c.index-waiting-place.is c.if-face-message.true)

pub loop-place-preserved : goal.loop-place-preserved
loop-place-preserved g c =
    let within : c.loop-place.place < length c.args.waiting.now = c.loop-place-test.true in
    record {
      oldest = c.loop-place.invariant.oldest ∙ oldest_behind c.args.face c.args.waiting.now c.loop-place.place c.index-waiting-place.result within c.index-waiting-place.is c.if-face-message.false;
      left = c.loop-place.invariant.left ∙ left_behind c.args.face c.args.waiting.now c.loop-place.place c.index-waiting-place.result within c.index-waiting-place.is c.if-face-message.false;
    }
