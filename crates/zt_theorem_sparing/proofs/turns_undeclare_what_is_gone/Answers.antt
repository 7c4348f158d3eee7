use Rattle.zt_theorem_sparing.proofs.Untelling.{turns_untell}
use Rattle.zt_theorem_sparing.proofs.turns_undeclare_what_is_gone.Goals as goal

pub returns : goal.returns
returns g c = λ lines s real fine. turns_untell g.K.Ord.cmp g.K.Key.matching g.met.K.Ord.total g.met.K.Key.laws.equal_is_same lines s real fine
