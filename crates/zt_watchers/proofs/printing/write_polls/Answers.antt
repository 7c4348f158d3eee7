use Rattle.std.proofs.Common.{ℕ, ◌+◌, List, ◌++◌, take, string_bytes, sym, ap, ◌∙◌}
use Rattle.zt_watchers.specs.Text.{plain_poll, poll_text}
use Rattle.zt_watchers.proofs.PollLemmas.{lines_more, lines_of_map}
use Rattle.zt_watchers.proofs.printing.write_polls.Goals as goal

pub loop-poll-preserved : goal.loop-poll-preserved
loop-poll-preserved g c =
    let start = string_bytes c.args.text.now in
    let so_far = lines_of_map (poll_text g.K.Key.printed) plain_poll (take c.loop-poll.poll-index c.args.polls.now) in
    let later = lines_of_map (poll_text g.K.Key.printed) plain_poll (take (c.loop-poll.poll-index + 1) c.args.polls.now) in
    lines_more (λ poll. poll_text g.K.Key.printed (plain_poll poll)) c.args.polls.now c.loop-poll.poll-index c.poll-item.result
    start (string_bytes c.loop-poll.text) (string_bytes c.put_poll.new.text)
    c.loop-poll-test.true c.poll-item.is (c.loop-poll.invariant ∙ ap (λ (t : List ℕ). start ++ t) so_far) c.in_ok-put_poll.ensures
    ∙ ap (λ (t : List ℕ). start ++ t) (sym later)
