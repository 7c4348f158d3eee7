use Rattle.zt_theorem_watch.proofs.Polled.{unwatched}
use Rattle.zt_theorem_watch.proofs.scripts_without_gateways_are_unwatched.Goals as goal

pub returns : goal.returns
returns g c = unwatched g.K.Ord.cmp g.K.Key.matching
