use Rattle.std.proofs.Common.{◌≡◌, ◌<◌, ◌++◌, true, ap, length, take, ◌∙◌}
use Rattle.zt_samples.specs.Samples.{is_for}
use Rattle.zt_samples.proofs.Steps.{is_for_both, left_here}
use Rattle.zt_samples.proofs.taking.place_of_sample.Goals as goal

pub returns-then-subscriber-one-clause-left : goal.returns-then-subscriber-one-clause-left
returns-then-subscriber-one-clause-left g c =
    let within : c.loop-place.place < length c.args.news.now = c.loop-place-test.true in
    let own : is_for c.args.session c.args.subscriber c.index-news-place.result ≡ true = is_for_both c.args.session c.args.subscriber c.index-news-place.result c.if-session-one.true c.if-subscriber-one.true in
    c.loop-place.invariant.left
    ∙ ap (λ rest. take c.loop-place.place c.args.news.now ++ rest) (left_here c.args.session c.args.subscriber c.args.news.now c.loop-place.place c.index-news-place.result within c.index-news-place.is own)
