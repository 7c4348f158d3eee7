use Rattle.zt_watchers.specs.Watching.{GoesOn}
use Rattle.zt_watchers.proofs.polling.poll_on.Given as goal

-- so many polls were made
abbrev pub invariant-loop : goal.invariant-loop
invariant-loop g l = GoesOn g.K.Ord.cmp g.K.Key.matching l.counter l.fn.watching l.watching
