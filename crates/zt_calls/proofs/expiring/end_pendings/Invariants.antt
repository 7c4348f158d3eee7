use Rattle.zt_calls.specs.Expired.{ending_each}
use Rattle.zt_calls.proofs.Doing.{Leads}
use Rattle.zt_calls.proofs.expiring.end_pendings.Given as goal

-- whatever does what is left has done all
abbrev pub invariant-loop-row : goal.invariant-loop-row
invariant-loop-row g l = Leads g.K.Ord.cmp g.K.Key.matching ending_each l.ended l.row-index l.fn.g l.g l.fn.speech l.speech
