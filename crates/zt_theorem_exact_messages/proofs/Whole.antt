-- Each turn of a transcript keeps all of these.
use Rattle.std.proofs.Common.{Bool, List, [], ◌∷◌}
use Rattle.std.specs.Cmp.{IsTotalOrder}
use Rattle.std.specs.declared.cmp.Ordering.{Ordering}
use Rattle.zt_protocol.specs.Plain.{PlainLine}
use Rattle.zt_model.specs.Fabric.{Fabric, entries_from}
use Rattle.zt_model.specs.Promises.{Turn, turns_from}
use Rattle.zt_model.specs.Transcript.{Each}
use Rattle.zt_laws.specs.Order.{FabricIsInOrder}
use Rattle.zt_laws.specs.Shown.{as_shown}
use Rattle.zt_laws.specs.Sound.{HasFirstIds}
use Rattle.zt_theorem_exact_messages.specs.Entities.{AnswersEntities}
use Rattle.zt_theorem_exact_messages.specs.Exact.{PrintsExactly}
use Rattle.zt_theorem_exact_messages.specs.Nodes.{PrintsGivenNodes}
use Rattle.zt_theorem_exact_messages.specs.Undeclared.{UndeclaresToWhoWants}
use Rattle.zt_theorem_exact_messages.proofs.EntityTurns.{turns_declare}
use Rattle.zt_theorem_exact_messages.proofs.NodeTurns.{turns_give_nodes}
use Rattle.zt_theorem_exact_messages.proofs.UndeclaredTurns.{turns_undeclare}

module _ {K : Type 0} (cmp : K → K → Ordering) (matching : K → K → Bool) where
  each_exactly : (ts : List (Turn K)) → Each (UndeclaresToWhoWants cmp matching) ts → Each (AnswersEntities cmp matching) ts → Each (PrintsGivenNodes cmp) ts → Each (PrintsExactly cmp matching) ts
  each_exactly [] undeclared answered given = tt
  each_exactly (t ∷ ts) undeclared answered given = (record { undeclarations = undeclared.0; entities = answered.0; nodes = given.0 }, each_exactly ts undeclared.1 answered.1 given.1)

  pub turns_print : IsTotalOrder cmp → (lines : List (PlainLine K)) (s : Fabric K) → Each HasFirstIds lines → FabricIsInOrder cmp matching s
      → Each (PrintsExactly cmp matching) (turns_from cmp matching lines (entries_from cmp matching lines s) (as_shown s))
  turns_print total lines s real fine =
      each_exactly (turns_from cmp matching lines (entries_from cmp matching lines s) (as_shown s))
      (turns_undeclare cmp matching total lines s real fine) (turns_declare cmp matching total lines s real fine) (turns_give_nodes cmp matching total lines s real fine)
