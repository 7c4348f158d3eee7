use Rattle.zt_theorem_finals.proofs.Last.{turns_end_with_finals}
use Rattle.zt_theorem_finals.proofs.turns_finals_come_last.Goals as goal

pub returns : goal.returns
returns g c = λ lines s real fine. turns_end_with_finals g.K.Ord.cmp g.K.Key.matching g.met.K.Ord.total lines s real fine
