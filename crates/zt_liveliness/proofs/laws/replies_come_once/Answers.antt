use Rattle.zt_liveliness.proofs.Once.{final_last, given_once, sent_once}
use Rattle.zt_liveliness.proofs.laws.replies_come_once.Goals as goal

pub returns-clause-sent : goal.returns-clause-sent
returns-clause-sent g c = λ session expr calls l reached accepted. sent_once g.K.Ord.cmp g.K.Key.matching g.met.K.Ord.total g.met.K.Key.laws.equal_is_same session expr l reached accepted calls

pub returns-clause-last : goal.returns-clause-last
returns-clause-last g c = λ session expr calls l reached accepted. final_last g.K.Ord.cmp g.K.Key.matching g.met.K.Ord.total g.met.K.Key.laws.equal_is_same session expr l reached accepted calls

pub returns-clause-given : goal.returns-clause-given
returns-clause-given g c = λ session expr calls l reached accepted. given_once g.K.Ord.cmp g.K.Key.matching g.met.K.Ord.total g.met.K.Key.laws.equal_is_same session expr l reached accepted calls
