use Rattle.std.proofs.Common.{◌≡◌, ◌++◌, drop, take}
use Rattle.zt_model.specs.Lists.{is_among}
use Rattle.zt_model.specs.Promises.{are_new}
use Rattle.zt_check_asks.proofs.gathered.gather_new.Given as goal

-- those so far are new and gathered, and the others are to be new beside them
abbrev pub invariant-loop-place : goal.invariant-loop-place
invariant-loop-place g l = record {
  fresh : are_new g.K.Ord.cmp g.K.Key.matching (take l.place l.exprs ++ l.known) (drop l.place l.exprs) ≡ are_new g.K.Ord.cmp g.K.Key.matching l.known l.exprs;
  gathered : (q : g.row.K.Denot) → is_among g.K.Ord.cmp q l.found.keys ≡ is_among g.K.Ord.cmp q (take l.place l.exprs);
}
