use Rattle.zt_interest_index.proofs.Kept.{AreGathered}
use Rattle.zt_interest_index.proofs.wilds.wilds_of.Given as goal

-- what isn't among those left stands where it is found
abbrev pub invariant-loop-key : goal.invariant-loop-key
invariant-loop-key g l = AreGathered g.K.Ord.cmp g.K.Key.anchored g.K.Key.numbered l.key-iterator l.keyed.entries l.wilds
