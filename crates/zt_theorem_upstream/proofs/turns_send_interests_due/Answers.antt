use Rattle.zt_theorem_upstream.proofs.Upstream.{turns_send}
use Rattle.zt_theorem_upstream.proofs.turns_send_interests_due.Goals as goal

pub returns : goal.returns
returns g c = λ lines s real fine. turns_send g.K.Ord.cmp g.K.Key.matching g.met.K.Ord.total g.met.K.Key.laws.equal_is_same lines s real fine
