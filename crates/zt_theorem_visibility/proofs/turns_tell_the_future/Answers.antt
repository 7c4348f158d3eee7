use Rattle.zt_theorem_visibility.proofs.Future.{future_told, routers_told}
use Rattle.zt_theorem_visibility.proofs.turns_tell_the_future.Goals as goal

pub returns : goal.returns
returns g c = record {
  future = λ lines s real fine. future_told g.K.Ord.cmp g.K.Key.matching g.met.K.Ord.total lines s real fine;
  routers = λ lines s real fine. routers_told g.K.Ord.cmp g.K.Key.matching g.met.K.Ord.total lines s real fine;
}
