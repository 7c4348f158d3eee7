use Rattle.zt_theorem_sparing.proofs.Sparing.{turns_spare}
use Rattle.zt_theorem_sparing.proofs.turns_are_sparing.Goals as goal

pub returns : goal.returns
returns g c = λ lines s real fine. turns_spare g.K.Ord.cmp g.K.Key.matching g.met.K.Ord.total lines s real fine
