use Rattle.zt_laws.proofs.Ends.{ends_commute}
use Rattle.zt_laws.proofs.Unlinking.{closings_commute}
use Rattle.zt_laws.proofs.effects.hearing_may_wait.Goals as goal

pub returns : goal.returns
returns g c = record {
  closing = λ faces ms s. closings_commute g.K.Ord.cmp g.K.Key.matching faces ms s;
  opening = λ ends ms s real fine within. ends_commute g.K.Ord.cmp g.K.Key.matching g.met.K.Ord.total ends ms s real fine within;
}
