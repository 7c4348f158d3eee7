use Rattle.std.proofs.Common.{length}
use Rattle.zt_check_trace.proofs.MessageLemmas.{AreTaken}
use Rattle.zt_check_trace.proofs.messages.take_messages.Given as goal

-- the first messages were read, and the rest is left
abbrev pub invariant-loop-alloc : goal.invariant-loop-alloc
invariant-loop-alloc g l = AreTaken g.K.Key.printed l.text l.sents.items l.rest

abbrev pub decreases-loop-alloc : goal.decreases-loop-alloc
decreases-loop-alloc g l = length l.rest
