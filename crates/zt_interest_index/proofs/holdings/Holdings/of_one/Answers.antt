use Rattle.zt_interest_index.proofs.Alike.{alike-one}
use Rattle.zt_interest_index.proofs.Rising.{rising-one}
use Rattle.zt_interest_index.proofs.holdings.Holdings.of_one.Goals as goal

pub invariant_of-result : goal.invariant_of-result
invariant_of-result g c = (
  (λ _. rw (c.in_ok-push.ensures.items, c.in_ok-rows.ensures.items) (alike-one ((c.args.face, c.args.id), c.args.about))),
  (λ _. rw (c.in_ok-push.ensures.items, c.in_ok-rows.ensures.items) (rising-one ((c.args.face, c.args.id), c.args.about))),
)
