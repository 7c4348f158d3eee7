use Rattle.zt_interest_index.proofs.Kept.{at-place}
use Rattle.zt_interest_index.proofs.wilds.place_of.Goals as goal
use Rattle.zt_interest_index.proofs.wilds.place_of.Goals.{then-count-fewest, else-count-fewest}

pub loop-number-preserved : goal.loop-number-preserved
loop-number-preserved g c =
    elim c.if-count-fewest.branch [
      | then-count-fewest w ↦ rw w.place-is (at-place _ _ _ c.loop-number-test.true)
      | else-count-fewest w ↦ rw w.place-is c.loop-number.invariant
    ]
