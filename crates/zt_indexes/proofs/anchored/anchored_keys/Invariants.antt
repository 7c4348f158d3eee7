use Rattle.zt_indexes.proofs.Gathered.{AreGathered}
use Rattle.zt_indexes.proofs.anchored.anchored_keys.Given as goal

-- what isn't among those left stands at its numbers
abbrev pub invariant-loop-expr : goal.invariant-loop-expr
invariant-loop-expr g l = AreGathered g.K.Ord.cmp g.K.Key.anchored l.keys.entries l.expr-iterator l.anchored
