use Rattle.zt_interest_index.specs.Wilds.{KeepsOthers}
use Rattle.zt_interest_index.proofs.wilds.drop_at.Given as goal

abbrev pub invariant-loop-number : goal.invariant-loop-number
invariant-loop-number g l = KeepsOthers g.K.Ord.cmp l.key l.fn.wilds l.wilds
