use Rattle.zt_laws.proofs.NextIds.{call_has_next_ids}
use Rattle.zt_laws.proofs.effects.calls_draw_next_ids.Goals as goal

pub returns : goal.returns
returns g c = λ call rows real ordered. call_has_next_ids g.K.Ord.cmp g.met.K.Ord.total g.K.Key.matching call rows real ordered
