use Rattle.zt_theorem_exact_messages.proofs.UndeclaredTurns.{turns_undeclare}
use Rattle.zt_theorem_exact_messages.proofs.turns_undeclare_to_who_wants.Goals as goal

pub returns : goal.returns
returns g c = λ lines s real fine. turns_undeclare g.K.Ord.cmp g.K.Key.matching g.met.K.Ord.total lines s real fine
