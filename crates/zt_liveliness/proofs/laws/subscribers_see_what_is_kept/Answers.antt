use Rattle.zt_liveliness.proofs.Seeing.{subscribers_see}
use Rattle.zt_liveliness.proofs.laws.subscribers_see_what_is_kept.Goals as goal

pub returns : goal.returns
returns g c = λ session expr e calls f l reached accepted through found. subscribers_see g.K.Ord.cmp g.K.Key.matching g.met.K.Ord.total g.met.K.Key.laws.equal_is_same session expr e calls f l reached accepted through found
