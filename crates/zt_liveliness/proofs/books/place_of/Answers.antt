use Rattle.std.proofs.Common.{◌∙◌}
use Rattle.zt_liveliness.proofs.Walks.{changed_here}
use Rattle.zt_liveliness.proofs.books.place_of.Goals as goal

pub returns-then-number-session-clause-changed : goal.returns-then-number-session-clause-changed
returns-then-number-session-clause-changed c =
    λ change other.
    c.loop-place.invariant.changed change
    ∙ changed_here c.args.number change c.args.sessions.now c.loop-place.place (record { number = 0; tokens = 0; interests = 0 }) other c.loop-place-test.true c.if-number-session.true
