-- What each turn of a transcript keeps beside the promises of `zt_model`, stricter than these.
use Rattle.std.specs.Prelude.{Bool}
use Rattle.std.specs.declared.cmp.Ordering.{Ordering}
use Rattle.zt_model.specs.Promises.{Turn}
use Rattle.zt_theorem_exact_messages.specs.Entities.{AnswersEntities}
use Rattle.zt_theorem_exact_messages.specs.Nodes.{PrintsGivenNodes}
use Rattle.zt_theorem_exact_messages.specs.Undeclared.{UndeclaresToWhoWants}

module _ {K : Type 0} (cmp : K → K → Ordering) (matching : K → K → Bool) where
  pub record PrintsExactly (t : Turn K) : Type 0 where
    pub undeclarations : UndeclaresToWhoWants cmp matching t
    pub entities : AnswersEntities cmp matching t
    pub nodes : PrintsGivenNodes cmp t
