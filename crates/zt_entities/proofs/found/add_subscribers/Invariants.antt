use Rattle.std.proofs.Common.{◌≡◌, ◌++◌, drop, filter}
use Rattle.zt_model.specs.Wants.{is_about}
use Rattle.zt_entities.proofs.found.add_subscribers.Given as goal

-- what is found so far, and of those left, is all
abbrev pub invariant-loop-subscriber : goal.invariant-loop-subscriber
invariant-loop-subscriber g l =
    l.found.items ++ filter (is_about g.K.Key.matching l.about) (drop l.subscriber-index l.subscribers) ≡ l.initial.found.items ++ filter (is_about g.K.Key.matching l.about) l.subscribers
