use Rattle.std.proofs.Common.{◌≡◌, drop}
use Rattle.std.specs.List.{list_all}
use Rattle.zt_check_keeping.specs.Keeping.{unheld_may_hear}
use Rattle.zt_check_keeping.proofs.keeping.all_unheld_may_hear.Given as goal

-- all so far do
abbrev pub invariant-loop-at : goal.invariant-loop-at
invariant-loop-at g l =
    list_all (unheld_may_hear g.K.Ord.cmp g.K.Key.matching l.fabric) (drop l.at-index l.unheld)
    ≡ list_all (unheld_may_hear g.K.Ord.cmp g.K.Key.matching l.fabric) l.unheld
