use Rattle.zt_liveliness.proofs.Seeing.{samples_are_sent}
use Rattle.zt_liveliness.proofs.laws.samples_are_what_is_sent.Goals as goal

pub returns : goal.returns
returns g c = λ session id calls l reached through. samples_are_sent g.K.Ord.cmp g.K.Key.matching g.met.K.Ord.total g.met.K.Key.laws.equal_is_same session id calls l reached through
