use Rattle.zt_calls.specs.Leaving.{leaving_interest}
use Rattle.zt_calls.proofs.Doing.{LeadsOver}
use Rattle.zt_calls.proofs.closing.leave_interests.Given as goal

-- whatever does what is left has done all
abbrev pub invariant-loop-id : goal.invariant-loop-id
invariant-loop-id g l =
    LeadsOver g.K.Ord.cmp g.K.Key.matching (leaving_interest g.K.Ord.cmp g.K.Key.matching l.face) l.held l.id-iterator l.fn.g l.g l.fn.speech l.speech
