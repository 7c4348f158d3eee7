use Rattle.zt_theorem_sparing.proofs.MoreSparing.{turns_spare_more}
use Rattle.zt_theorem_sparing.proofs.turns_are_more_sparing.Goals as goal

pub returns : goal.returns
returns g c = λ lines s real fine. turns_spare_more g.K.Ord.cmp g.K.Key.matching g.met.K.Ord.total g.met.K.Key.laws.equal_is_same lines s real fine
