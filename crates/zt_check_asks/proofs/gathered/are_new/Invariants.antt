use Rattle.std.proofs.Common.{◌≡◌, ◌++◌, drop, take}
use Rattle.zt_model.specs.Promises.{are_new}
use Rattle.zt_check_asks.proofs.gathered.are_new.Given as goal

-- those so far are, and the others are to be new beside them
abbrev pub invariant-loop-place : goal.invariant-loop-place
invariant-loop-place g l =
    are_new g.K.Ord.cmp g.K.Key.matching (take l.place l.exprs ++ l.known) (drop l.place l.exprs) ≡ are_new g.K.Ord.cmp g.K.Key.matching l.known l.exprs
