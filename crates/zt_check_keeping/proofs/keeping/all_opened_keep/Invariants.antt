use Rattle.std.proofs.Common.{◌≡◌, drop}
use Rattle.std.specs.List.{list_all}
use Rattle.zt_check_keeping.specs.Keeping.{opened_keeps_all}
use Rattle.zt_check_keeping.proofs.keeping.all_opened_keep.Given as goal

-- all so far do
abbrev pub invariant-loop-at : goal.invariant-loop-at
invariant-loop-at g l =
    list_all (opened_keeps_all g.K.Ord.cmp g.K.Key.matching l.fabric) (drop l.at-index l.opened)
    ≡ list_all (opened_keeps_all g.K.Ord.cmp g.K.Key.matching l.fabric) l.opened
