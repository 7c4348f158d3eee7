use Rattle.zt_theorem_replies.proofs.Once.{final_last, replies_once}
use Rattle.zt_theorem_replies.proofs.replies_come_once.Goals as goal

pub returns : goal.returns
returns g c = record {
  once = λ n id mode options e calls rows ordered real current accepted other. replies_once g.K.Ord.cmp g.K.Key.matching n id g.met.K.Ord.total mode options e rows current accepted calls ordered real other;
  last = λ n id mode options e calls rows ordered real current accepted other. final_last g.K.Ord.cmp g.K.Key.matching n id g.met.K.Ord.total mode options e rows current accepted calls ordered real other;
}
