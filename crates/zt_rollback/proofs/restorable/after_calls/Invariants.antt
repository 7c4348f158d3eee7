use Rattle.std.proofs.Common.{◌≡◌, drop, map}
use Rattle.zt_rollback.specs.After.{rows_after_calls}
use Rattle.zt_rollback.specs.Kept.{kept_call}
use Rattle.zt_rollback.proofs.restorable.after_calls.Given as goal

-- what the calls left leave of the state so far is what all leave
abbrev pub invariant-loop-kept : goal.invariant-loop-kept
invariant-loop-kept g l =
    rows_after_calls g.K.Ord.cmp g.K.Key.matching (map kept_call (drop l.kept-index l.calls)) l.state
    ≡ rows_after_calls g.K.Ord.cmp g.K.Key.matching (map kept_call l.calls) l.earlier
