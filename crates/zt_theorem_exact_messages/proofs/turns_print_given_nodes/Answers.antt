use Rattle.zt_theorem_exact_messages.proofs.NodeTurns.{turns_give_nodes}
use Rattle.zt_theorem_exact_messages.proofs.turns_print_given_nodes.Goals as goal

pub returns : goal.returns
returns g c = λ lines s real fine. turns_give_nodes g.K.Ord.cmp g.K.Key.matching g.met.K.Ord.total lines s real fine
