use Rattle.std.proofs.Common.{◌≡◌, ◌++◌, drop}
use Rattle.zt_samples.specs.Samples.{started}
use Rattle.zt_samples.proofs.hearing.begin.Given as goal

-- what is given so far, and what is left to be given, is all
abbrev pub invariant-loop-row : goal.invariant-loop-row
invariant-loop-row g l =
    l.news.items ++ started g.K.Key.matching l.session l.id l.expr l.history (drop l.row-index l.told)
    ≡ started g.K.Key.matching l.session l.id l.expr l.history l.told
