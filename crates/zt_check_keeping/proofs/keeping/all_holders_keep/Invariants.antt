use Rattle.std.proofs.Common.{◌≡◌, drop}
use Rattle.std.specs.List.{list_all}
use Rattle.zt_check_keeping.specs.Keeping.{holder_keeps}
use Rattle.zt_check_keeping.proofs.keeping.all_holders_keep.Given as goal

-- all so far do
abbrev pub invariant-loop-at : goal.invariant-loop-at
invariant-loop-at g l =
    list_all (holder_keeps g.K.Ord.cmp g.K.Key.matching l.fabric) (drop l.at-index l.held)
    ≡ list_all (holder_keeps g.K.Ord.cmp g.K.Key.matching l.fabric) l.held
