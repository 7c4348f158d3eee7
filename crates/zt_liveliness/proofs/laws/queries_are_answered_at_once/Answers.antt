use Rattle.zt_liveliness.proofs.AtOnce.{query_answered_at_once}
use Rattle.zt_liveliness.proofs.laws.queries_are_answered_at_once.Goals as goal

pub returns : goal.returns
returns g c = query_answered_at_once g.K.Ord.cmp g.K.Key.matching
