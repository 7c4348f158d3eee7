use Rattle.zt_theorem_finals.proofs.Initial.{turns_finish_initial}
use Rattle.zt_theorem_finals.proofs.turns_finish_initial_interests.Goals as goal

pub returns : goal.returns
returns g c = λ lines s real fine. turns_finish_initial g.K.Ord.cmp g.K.Key.matching g.met.K.Ord.total lines s real fine
