use Rattle.std.proofs.Common.{◌≡◌, ◌++◌, drop}
use Rattle.zt_samples.specs.Samples.{gone_news}
use Rattle.zt_samples.proofs.hearing.give_gone.Given as goal

-- what is given so far, and what is left to be given, is all
abbrev pub invariant-loop-row : goal.invariant-loop-row
invariant-loop-row g l =
    l.news.items ++ gone_news g.K.Ord.cmp g.K.Key.matching l.session l.id l.subscribers l.told (drop l.row-index l.told)
    ≡ l.initial.news.items ++ gone_news g.K.Ord.cmp g.K.Key.matching l.session l.id l.subscribers l.told l.told
