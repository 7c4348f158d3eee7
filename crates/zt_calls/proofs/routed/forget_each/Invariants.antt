use Rattle.zt_calls.specs.Leaving.{gone_from}
use Rattle.zt_calls.proofs.Doing.{Leads}
use Rattle.zt_calls.proofs.routed.forget_each.Given as goal

-- whatever does what is left has done all
abbrev pub invariant-loop-expr : goal.invariant-loop-expr
invariant-loop-expr g l = Leads g.K.Ord.cmp g.K.Key.matching (gone_from g.K.Ord.cmp g.K.Key.matching l.region) l.exprs l.expr-index l.fn.g l.g l.fn.speech l.speech
