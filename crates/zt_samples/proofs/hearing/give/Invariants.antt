use Rattle.std.proofs.Common.{◌≡◌, ◌++◌, drop}
use Rattle.zt_samples.specs.Samples.{news_of}
use Rattle.zt_samples.proofs.hearing.give.Given as goal

-- what is given so far, and what is left to be given, is all
abbrev pub invariant-loop-subscriber : goal.invariant-loop-subscriber
invariant-loop-subscriber g l =
    l.news.items ++ news_of g.K.Key.matching l.session l.is_put l.expr l.alters (drop l.subscriber-index l.subscribers)
    ≡ l.initial.news.items ++ news_of g.K.Key.matching l.session l.is_put l.expr l.alters l.subscribers
