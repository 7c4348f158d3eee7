use Rattle.zt_theorem_exact_messages.proofs.Whole.{turns_print}
use Rattle.zt_theorem_exact_messages.proofs.turns_print_exactly.Goals as goal

pub returns : goal.returns
returns g c = λ lines s real fine. turns_print g.K.Ord.cmp g.K.Key.matching g.met.K.Ord.total lines s real fine
