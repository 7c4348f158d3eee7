use Rattle.zt_theorem_watch.proofs.Fold.{follows}
use Rattle.zt_theorem_watch.proofs.tables_follow_from_changes.Goals as goal

pub returns : goal.returns
returns g c = follows g.K.Ord.cmp g.met.K.Ord.total g.met.K.Key.laws.equal_is_same
